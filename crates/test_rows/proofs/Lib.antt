mod ElementLemmas
mod LoadingLemmas
