-- What an object answers is short: at most 1,400 bytes.
use Rattle.std.proofs.Common.{◌≡◌, ℕ, false, List, Option, Some, None, refl}
use Rattle.adapter_table.specs.declared.profile.Description.{Description}
use Rattle.adapter_table.specs.declared.objects.IoState.{IoState}
use Rattle.adapter_table.specs.Points.{bytes_at}
use Rattle.adapter_table.specs.Profiles.{profile_fault}
use Rattle.adapter_table.specs.Shapes.{IsShaped}
use Rattle.adapter_table.specs.Lemmas.ObjectSizes as sizes
use Rattle.adapter_table.specs.Lemmas.ObjectSizes.{FewSaid, said_few, assembly_found_few}
use Rattle.assembly_set.specs.Assemblies.{Assemblies}
use Rattle.adapter_replies.specs.Objects.Said.{described_in, described_said, assembly_said, standing_in}

-- what a described device answers is short
pub described_few : (set : Assemblies) (io : IoState) (connections : ℕ) (link : List ℕ) (d : Description) (service class instance : ℕ) (attribute : Option ℕ) (body : List ℕ) → profile_fault set.profile ≡ None → set.profile.description ≡ Some d → FewSaid (described_said set io connections link d service class instance attribute body)
unfolding described_said
described_few set io connections link d service class instance attribute body none is =
    said_few io.owned service attribute body (described_in set io connections link d class instance)
    (sizes.described_few set.profile (standing_in set io) connections link d class instance none is)

-- what a device answers of an assembly is short
pub assembly_few : (set : Assemblies) (service instance : ℕ) (attribute : Option ℕ) (body : List ℕ) → IsShaped set.profile set.values → FewSaid (assembly_said set service instance attribute body)
unfolding assembly_said
assembly_few set service instance attribute body shaped =
    said_few false service attribute body _ (assembly_found_few set.profile set.values instance (bytes_at set.values instance) shaped refl)
