use Rattle.sheet_laws.proofs.AdmittedOffers.{sheets_are_admitted}
use Rattle.sheet_laws.proofs.offers.fresh_devices_admit_what_a_sheet_offers.Goals as goal

pub returns : goal.returns
returns c = sheets_are_admitted
