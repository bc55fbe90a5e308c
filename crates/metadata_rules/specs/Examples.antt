-- Traps of the walk and the merge, computed by the definitions.
use Rattle.std.specs.Prelude.{◌≡◌, refl, ℕ, false, List, [], ◌∷◌, ltb}
use Rattle.theory.specs.Answer.{answer}
use Rattle.metadata_rules.specs.declared.Interval.{Interval}
use Rattle.metadata_rules.specs.Walk.{interval, conflict, laid, walk}
use Rattle.metadata_rules.specs.Metadata.{Mapping, mapping, Metadata, Given, enter_all, by_name, merged, merge, refused, done}

abbrev i : ℕ → ℕ → ℕ → Interval
i a b s = interval a b s

-- intervals that touch are not joined
touch : walk (i 1 5 0 ∷ []) (i 5 10 0 ∷ []) ≡ laid (i 1 5 0 ∷ i 5 10 0 ∷ [])
unfolding walk
touch = refl

-- an empty interval: the same dates, at an edge, within
empty_same : walk (i 5 5 0 ∷ []) (i 5 5 1 ∷ []) ≡ conflict
unfolding walk
empty_same = refl

empty_edge : walk (i 5 5 0 ∷ []) (i 5 9 1 ∷ []) ≡ laid (i 5 5 0 ∷ i 5 9 1 ∷ [])
unfolding walk
empty_edge = refl

empty_within : walk (i 7 7 0 ∷ []) (i 5 9 1 ∷ []) ≡ conflict
unfolding walk
empty_within = refl

-- a name twice: in the first metadata the last counts, at the place of the first; in an added one both are merged
twice_first : enter_all [] (mapping 0 (i 1 2 7 ∷ []) ∷ mapping 1 (i 1 2 8 ∷ []) ∷ mapping 0 (i 3 4 9 ∷ []) ∷ [])
    ≡ mapping 0 (i 3 4 9 ∷ []) ∷ mapping 1 (i 1 2 8 ∷ []) ∷ []
unfolding enter_all
twice_first = refl

twice_added : by_name (mapping 0 (i 1 2 7 ∷ []) ∷ mapping 0 (i 3 4 9 ∷ []) ∷ []) ≡ merged (mapping 0 (i 1 2 7 ∷ i 3 4 9 ∷ []) ∷ [])
unfolding by_name
twice_added = refl

-- days below 100, ten names, two mappings and n intervals; a metadata of a version with these mappings
given : ℕ → Given
given n = record { date = λ d. ltb d 100; names = 10; rooms = record { symbols = 0; partial = 0; not_found = 0; mappings = 2; intervals = n } }

metadata : ℕ → List Mapping → Metadata
metadata v ms = record {
  fields = record { version = v; dataset = 0; schema = 1; start = 0; end = 0; limit = 0; stype_in = 0; stype_out = 0; ts_out = false; symbol_cstr_len = 0 };
  symbols = [];
  partial = [];
  not_found = [];
  mappings = ms;
}

-- 7 comes before 2 also where the first of two walks would not fit the room
conflict_first : merge (given 1) (metadata 1 (mapping 0 (i 1 2 0 ∷ []) ∷ [])) (metadata 1 (mapping 0 (i 3 4 0 ∷ []) ∷ mapping 0 (i 3 4 1 ∷ []) ∷ []))
    ≡ refused (answer 7 [])
unfolding merge given metadata
conflict_first = refl

no_room : merge (given 1) (metadata 1 (mapping 0 (i 1 2 0 ∷ []) ∷ [])) (metadata 1 (mapping 0 (i 3 4 0 ∷ []) ∷ [])) ≡ refused (answer 2 [])
unfolding merge given metadata
no_room = refl

-- a version that differs and a bad date
differ_first : merge (given 1) (metadata 1 (mapping 0 (i 1 200 0 ∷ []) ∷ [])) (metadata 2 []) ≡ refused (answer 6 (1 ∷ []))
unfolding merge given metadata
differ_first = refl

-- an unknown name in the first mapping, a bad date in the last; a reversed interval under a name that only one side has
date_first : merge (given 9) (metadata 1 (mapping 99 (i 1 2 0 ∷ []) ∷ mapping 1 (i 1 200 0 ∷ []) ∷ [])) (metadata 1 []) ≡ refused (answer 11 [])
unfolding merge given metadata
date_first = refl

reversed : merge (given 9) (metadata 1 []) (metadata 1 (mapping 1 (i 5 2 0 ∷ []) ∷ [])) ≡ refused (answer 1 [])
unfolding merge given metadata
reversed = refl

-- a lost mapping's bad date is gone
lost : merge (given 9) (metadata 1 (mapping 0 (i 1 200 0 ∷ []) ∷ mapping 0 (i 1 2 0 ∷ []) ∷ [])) (metadata 1 []) ≡ done (metadata 1 (mapping 0 (i 1 2 0 ∷ []) ∷ []))
unfolding merge given metadata
lost = refl
