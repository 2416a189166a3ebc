use Rattle.std.proofs.Common.{sym, ◌∙◌}
use Rattle.settling.proofs.Receiving.{place_within}
use Rattle.settling.proofs.receipts.mark_event.Goals as goal

pub set-requires-clause-place : goal.set-requires-clause-place
set-requires-clause-place c = (place_within c.args.histories.now c.args.marks.now c.in-Some.place c.args.receipt.now c.requires.room (c.fits.ensures.0 c.if-not-fits.false)).1

pub returns : goal.returns
returns c = (
  record {
    place = c.in-Some.place;
    place_is = sym c.place_of.ensures ∙ c.in-Some.is;
    fits = c.fits.ensures.0 c.if-not-fits.false;
    first = sym c.has.ensures ∙ c.if-has.false;
  },
  c.set.ensures,
)
