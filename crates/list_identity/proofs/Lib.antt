mod InquirySamples
mod Short
