-- A watch as words: what the first words of a row stand for, and the words of a watch.
use Rattle.std.specs.Prelude.{ℕ, List, [], ◌∷◌, get_or}
use Rattle.watch.specs.declared.Watch.{Watch}

-- the words of a watch
abbrev pub watch_length : ℕ
watch_length = 4

-- the watch that stands in the first words
unfoldable pub watch_in : List ℕ → Watch
watch_in w = record { size = get_or w 0 0; reads = get_or w 1 0; cold = get_or w 2 0; hits = get_or w 3 0 }

-- the words of a watch: its size, its reads, its cold reads, its hits
unfoldable pub watch_laid : Watch → List ℕ
watch_laid w = w.size ∷ w.reads ∷ w.cold ∷ w.hits ∷ []
