mod ModuleLemmas
