-- The values, if no data segment is stored.
use Rattle.std.proofs.Common.{◌≡◌, List, Option, Some, None, refl}
use Rattle.adapter_table.specs.declared.profile.InputPoint.{InputPoint}
use Rattle.adapter_table.specs.declared.table.PointValue.{PointValue}
use Rattle.adapter_table.specs.Opening.{configured}

-- where no segment is stored, the values stay
pub configured_none : (config : Option InputPoint) (values : List PointValue) → configured config None values ≡ values
configured_none None values = refl
configured_none (Some config) values = refl
