use Rattle.object_laws.proofs.InquiryLaws.{inquiries_stay}
use Rattle.object_laws.proofs.inquiries.inquiries_change_nothing.Goals as goal

pub returns : goal.returns
returns c = inquiries_stay
