use Rattle.std.proofs.Common.{ℕ, ◌%◌, ◌≤◌, length, subst, sym, ap, ◌∙◌, List}
use Rattle.cip_epath.specs.Path.{view_path, IsPath, IsTextOf}
use Rattle.cip_epath.specs.Laws.Texts.{path_text_is, path_text_whole}
use Rattle.cip_epath.specs.Laws.PathLaws.{path_reads}
use Rattle.cip_epath.proofs.write.write_path.Goals as goal

pub returns-clause-text : goal.returns-clause-text
returns-clause-text c = rw c.in_ok-out.ensures.items at c.in_ok-put_path.ensures.text

pub returns-clause-is_text : goal.returns-clause-is_text
returns-clause-is_text c = subst (λ (text : List ℕ). IsTextOf IsPath text (view_path c.args.path.now)) (sym (returns-clause-text c)) (path_text_is _ c.in_ok-put_path.ensures.fits)

pub returns-clause-read_back : goal.returns-clause-read_back
returns-clause-read_back c = path_reads _ (view_path c.args.path.now) (returns-clause-is_text c)

pub returns-clause-whole_words : goal.returns-clause-whole_words
returns-clause-whole_words c = ap (λ (text : List ℕ). length text % 2) (returns-clause-text c) ∙ path_text_whole (view_path c.args.path.now) c.in_ok-put_path.ensures.fits

pub returns-clause-short : goal.returns-clause-short
returns-clause-short c = subst (λ (text : List ℕ). length text ≤ 510) (sym (returns-clause-text c)) c.requires.short
