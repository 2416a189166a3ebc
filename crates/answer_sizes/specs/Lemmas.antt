-- Lemmas that the laws above cite: how long the data of slots and their requests are, and the replies to inquiries.
pub mod SlotLengths
pub mod InquiryLengths
