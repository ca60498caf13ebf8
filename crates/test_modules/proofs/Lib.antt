mod SpaceLemmas
mod WordLemmas
