mod SavedLemmas
mod OtherLists
