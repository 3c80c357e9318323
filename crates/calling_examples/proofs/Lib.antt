mod EditingLemmas
mod ReadingLemmas
