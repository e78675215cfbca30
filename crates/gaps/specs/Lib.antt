-- What fits nowhere between parameters, in the rules' terms.
pub mod Unfit
