-- The attribute events before a start event, and laws of them.
pub mod PutBefore
pub mod OneByOne
