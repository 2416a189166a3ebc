mod OfferedPoints
mod AdmittedOffers
