-- Which events a reader has put so far that puts each run of data as it is if the current element ended here, and how an event more changes that.
pub mod Due
pub mod Lists
pub mod Among
