-- What holds of any merge that is not refused: every set entry and every mapping name of both sides is there once, and the pairs
-- of day and symbol that a name's list covers are those of both sides together. Assumes nothing.
use Rattle.std.specs.Prelude.{◌≡◌, ◌≢◌, ◌⊎◌, ◌↔◌, ℕ, zero, suc, Bool, true, false, ◌&&◌, cond, eqb}
use Rattle.std.proofs.Math.Path.{refl, ap, subst}
use Rattle.std.proofs.Common.{sym, ◌∙◌, ⊎_elim, arith}
use Rattle.std.proofs.Math.Logic.{inl, inr}
use mathlib.Core.List.{List, [], ◌∷◌, ◌++◌}
use Rattle.theory.specs.Answer.{Answer, answer}
use Rattle.theory.specs.Runs.{Mem}
use Rattle.metadata_rules.specs.declared.Interval.{Interval}
use Rattle.metadata_rules.specs.Cases.{Once, eqb_case, cond_eq, cond_ne}
use Rattle.metadata_rules.specs.Walk.{Walked, conflict, laid, walk_all}
use Rattle.metadata_rules.specs.Metadata.{Metadata, Mapping, mapping, Merged, conflicting, merged, add_all, once, names_of, opened, lists_of, under, in_front, collect, outcome, by_name, Rooms, Given, Outcome, refused, done, together, fits, if_fits, if_merged, agreed_merge, if_same, merge_opened, merge, differs_at, dates_known, names_known, forwards}
use Rattle.metadata_rules.specs.Names.{add_all_old, add_all_new, add_all_only, add_all_once, once_once, once_same, add_all_append, names_append, enter_all_names, merged_names}
use Rattle.metadata_rules.proofs.Cover.{Covered, CoveredAny, walk_all_covers}

-- ---- a merge that is not refused is both sides together, with the merge by name

pub record Together (m k r : Metadata) : Type 0 where
  pub mappings : List Mapping
  pub merges : by_name ((opened m).mappings ++ k.mappings) ≡ merged mappings
  pub is : r ≡ together (opened m) k mappings

passed : (b : Bool) (x : Outcome) (a : Answer) (r : Metadata) → cond b x (refused a) ≡ done r → x ≡ done r
passed true x a r e = e
passed false x a r e = let z : ◌≡◌ {A = ℕ} 0 1 = cc in absurd (omega arith)

fitted : (b : Bool) (x : Metadata) (a : Answer) (r : Metadata) → cond b (done x) (refused a) ≡ done r → r ≡ x
fitted true x a r e = cc
fitted false x a r e = let z : ◌≡◌ {A = ℕ} 0 1 = cc in absurd (omega arith)

merged_done : (rm : Rooms) (m k r : Metadata) (g : Merged) → if_merged rm m k g ≡ done r → (ms : List Mapping) × (g ≡ merged ms) × (r ≡ together m k ms)
unfolding if_merged if_fits
merged_done rm m k r conflicting e = let z : ◌≡◌ {A = ℕ} 0 1 = cc in absurd (omega arith)
merged_done rm m k r (merged ms) e = (ms, refl, fitted (fits rm (together m k ms)) (together m k ms) (answer 2 []) r e)

agreed_together : (w : Given) (m k r : Metadata) → agreed_merge w (opened m) k ≡ done r → Together m k r
unfolding agreed_merge
agreed_together w m k r e =
    let a = passed (dates_known w.date (opened m).mappings && dates_known w.date k.mappings) _ (answer 11 []) r e in
    let b = passed (names_known w.names (opened m) && names_known w.names k) _ (answer 3 []) r a in
    let c = passed (forwards (opened m).mappings && forwards k.mappings) _ (answer 1 []) r b in
    let d = merged_done w.rooms (opened m) k r (by_name ((opened m).mappings ++ k.mappings)) c in
    record { mappings = d.0; merges = d.1; is = d.2 }

same_together : (w : Given) (m k r : Metadata) (n : ℕ) → if_same w (opened m) k n ≡ done r → Together m k r
unfolding if_same
same_together w m k r zero e = agreed_together w m k r e
same_together w m k r (suc n) e = let z : ◌≡◌ {A = ℕ} 0 1 = cc in absurd (omega arith)

pub merge_together : (w : Given) (m k r : Metadata) → merge w m k ≡ done r → Together m k r
unfolding merge merge_opened
merge_together w m k r e = same_together w m k r (differs_at (opened m).fields k.fields) e

-- ---- sets

-- r has the entries of a and of b, each once
pub record Union (a b r : List ℕ) : Type 0 where
  pub single : Once r
  pub same : (z : ℕ) → Mem z r ↔ (Mem z a ⊎ Mem z b)

-- b added to the entries of a, each once
union_from : (a b s : List ℕ) → Once s → ((z : ℕ) → Mem z s ↔ Mem z a) → Union a b (add_all s b)
union_from a b s o q = record { single = add_all_once b s o; same = λ z. (λ h. there z (add_all_only b s z h), back z) }
  where
    there : (z : ℕ) → Mem z s ⊎ Mem z b → Mem z a ⊎ Mem z b
    there z (inl h) = inl ((q z).0 h)
    there z (inr h) = inr h

    back : (z : ℕ) → Mem z a ⊎ Mem z b → Mem z (add_all s b)
    back z (inl h) = add_all_old b s z ((q z).1 h)
    back z (inr h) = add_all_new b s z h

union : (a b : List ℕ) → Union a b (add_all (once a) b)
union a b = union_from a b (once a) (once_once a) (once_same a)

-- ---- what a name covers

-- a walk's outcome covers the day d with the symbol s
abbrev By : ℕ → ℕ → Walked → Type 0
By d s conflict = ⊥
By d s (laid xs) = Covered d s xs

lists_append : (n : ℕ) (xs ys : List Mapping) → lists_of n (xs ++ ys) ≡ lists_of n xs ++ lists_of n ys
unfolding lists_of
lists_append n [] ys = refl
lists_append n (x ∷ xs) ys =
    eqb_case (λ (l : List (List Interval)). cond (eqb x.name n) (x.intervals ∷ lists_of n (xs ++ ys)) (lists_of n (xs ++ ys)) ≡ l ++ lists_of n ys) x.name n _ _
    (λ e. cond_eq x.name n _ _ e ∙ ap (λ (l : List (List Interval)). x.intervals ∷ l) (lists_append n xs ys))
    (λ e. cond_ne x.name n _ _ e ∙ lists_append n xs ys)

no_conflict : (y : ℕ) (q : Merged) (ms : List Mapping) → under y conflict q ≡ merged ms → ⊥
unfolding under
no_conflict y q ms e = let z : ◌≡◌ {A = ℕ} 0 1 = cc in omega arith

none_conflicting : (y : ℕ) (c : List Interval) (ms : List Mapping) → under y (laid c) conflicting ≡ merged ms → ⊥
unfolding under in_front
none_conflicting y c ms e = let z : ◌≡◌ {A = ℕ} 0 1 = cc in omega arith

in_front_lem : (y : ℕ) (c : List Interval) (t ms : List Mapping) → under y (laid c) (merged t) ≡ merged ms → mapping y c ∷ t ≡ ms
unfolding under in_front
in_front_lem y c t ms e = cc

-- no name of a merge conflicts
collect_walks : (ns : List ℕ) (f : ℕ → Walked) (ms : List Mapping) → collect ns f ≡ merged ms → (n : ℕ) → Mem n ns → f n ≡ conflict → ⊥
unfolding collect
collect_walks [] f ms e n h a = h
collect_walks (y ∷ ns) f ms e n h a = go (f y) refl (collect ns f) refl e h (λ t c k. collect_walks ns f t c n k a)
  where
    not_laid : (xs : List Interval) → laid xs ≡ conflict → ⊥
    not_laid xs z = let o : ◌≡◌ {A = ℕ} 0 1 = cc in omega arith

    go : (w : Walked) → f y ≡ w → (q : Merged) → collect ns f ≡ q → under y w q ≡ merged ms → (n ≡ y) ⊎ Mem n ns → ((t : List Mapping) → collect ns f ≡ merged t → Mem n ns → ⊥) → ⊥
    go conflict b q c g k ih = no_conflict y q ms g
    go (laid xs) b conflicting c g k ih = none_conflicting y xs ms g
    go (laid xs) b (merged t) c g (inl k) ih = let z : laid xs ≡ conflict = sym b ∙ ap f (sym k) ∙ a in not_laid xs z
    go (laid xs) b (merged t) c g (inr k) ih = ih t c k

no_walk : (n : ℕ) (all ms : List Mapping) → by_name all ≡ merged ms → walk_all [] (lists_of n all) ≡ conflict → Mem n (once (names_of all)) → ⊥
unfolding by_name outcome
no_walk n all ms e a h = collect_walks (once (names_of all)) (λ u. walk_all [] (lists_of u all)) ms e n h a

module _ (d s : ℕ) where
  any_append : (xs ys : List (List Interval)) → CoveredAny d s (xs ++ ys) ↔ (CoveredAny d s xs ⊎ CoveredAny d s ys)
  any_append [] ys = (λ h. inr h, go)
    where
      go : ⊥ ⊎ CoveredAny d s ys → CoveredAny d s ys
      go (inl h) = absurd h
      go (inr h) = h
  any_append (x ∷ xs) ys = let r = any_append xs ys in (there r, back r)
    where
      on : CoveredAny d s xs ⊎ CoveredAny d s ys → (Covered d s x ⊎ CoveredAny d s xs) ⊎ CoveredAny d s ys
      on (inl h) = inl (inr h)
      on (inr h) = inr h

      there : CoveredAny d s (xs ++ ys) ↔ (CoveredAny d s xs ⊎ CoveredAny d s ys) → Covered d s x ⊎ CoveredAny d s (xs ++ ys) → (Covered d s x ⊎ CoveredAny d s xs) ⊎ CoveredAny d s ys
      there r (inl e) = inl (inl e)
      there r (inr h) = on (r.0 h)

      back : CoveredAny d s (xs ++ ys) ↔ (CoveredAny d s xs ⊎ CoveredAny d s ys) → (Covered d s x ⊎ CoveredAny d s xs) ⊎ CoveredAny d s ys → Covered d s x ⊎ CoveredAny d s (xs ++ ys)
      back r (inl (inl e)) = inl e
      back r (inl (inr h)) = inr (r.1 (inl h))
      back r (inr h) = inr (r.1 (inr h))

  any_named : (n : ℕ) (ms : List Mapping) → CoveredAny d s (lists_of n ms) → Mem n (names_of ms)
  unfolding lists_of names_of
  any_named n [] h = h
  any_named n (m ∷ ms) h =
      eqb_case (λ (l : List (List Interval)). CoveredAny d s l → (n ≡ m.name) ⊎ Mem n (names_of ms)) m.name n _ _
      (λ e k. inl (sym e)) (λ e k. inr (any_named n ms k)) h

  collect_covers : (ns : List ℕ) (f : ℕ → Walked) (ms : List Mapping) → collect ns f ≡ merged ms → Once ns → (n : ℕ) → CoveredAny d s (lists_of n ms) ↔ (Mem n ns × By d s (f n))
  unfolding collect lists_of
  collect_covers [] f ms e o n =
      let z : [] ≡ ms = cc in
      subst (λ (l : List Mapping). CoveredAny d s (lists_of n l) ↔ (⊥ × By d s (f n))) z (λ h. absurd h, λ h. absurd h.0)
  collect_covers (y ∷ ns) f ms e o n = go (f y) refl (collect ns f) e (λ t q. collect_covers ns f t q o.1 n)
    where
      step : (c : List Interval) (t : List Mapping) → f y ≡ laid c → (CoveredAny d s (lists_of n t) ↔ (Mem n ns × By d s (f n)))
          → CoveredAny d s (lists_of n (mapping y c ∷ t)) ↔ (((n ≡ y) ⊎ Mem n ns) × By d s (f n))
      step c t a ih =
          eqb_case (λ (l : List (List Interval)). CoveredAny d s l ↔ (((n ≡ y) ⊎ Mem n ns) × By d s (f n))) y n _ _ (λ p. (here p, from p)) (λ p. (past, out p))
        where
          here : y ≡ n → Covered d s c ⊎ CoveredAny d s (lists_of n t) → ((n ≡ y) ⊎ Mem n ns) × By d s (f n)
          here p (inl h) = (inl (sym p), subst (λ (u : ℕ). By d s (f u)) p (subst (By d s) (sym a) h))
          here p (inr h) = let q = ih.0 h in (inr q.0, q.1)

          from : y ≡ n → ((n ≡ y) ⊎ Mem n ns) × By d s (f n) → Covered d s c ⊎ CoveredAny d s (lists_of n t)
          from p h = inl (subst (By d s) a (subst (λ (u : ℕ). By d s (f u)) (sym p) h.1))

          past : CoveredAny d s (lists_of n t) → ((n ≡ y) ⊎ Mem n ns) × By d s (f n)
          past h = let q = ih.0 h in (inr q.0, q.1)

          out : y ≢ n → ((n ≡ y) ⊎ Mem n ns) × By d s (f n) → CoveredAny d s (lists_of n t)
          out p h = ih.1 (⊎_elim (λ q. absurd (p (sym q))) (λ q. q) h.0, h.1)

      go : (w : Walked) → f y ≡ w → (q : Merged) → under y w q ≡ merged ms → ((t : List Mapping) → q ≡ merged t → CoveredAny d s (lists_of n t) ↔ (Mem n ns × By d s (f n)))
          → CoveredAny d s (lists_of n ms) ↔ (((n ≡ y) ⊎ Mem n ns) × By d s (f n))
      go conflict a q g ih = absurd (no_conflict y q ms g)
      go (laid c) a conflicting g ih = absurd (none_conflicting y c ms g)
      go (laid c) a (merged t) g ih = subst (λ (l : List Mapping). CoveredAny d s (lists_of n l) ↔ (((n ≡ y) ⊎ Mem n ns) × By d s (f n))) (in_front_lem y c t ms g) (step c t a (ih t refl))

  -- a merge by name covers, under each name, what the mappings cover
  pub by_name_covers : (all ms : List Mapping) → by_name all ≡ merged ms → (n : ℕ) → CoveredAny d s (lists_of n ms) ↔ CoveredAny d s (lists_of n all)
  unfolding by_name outcome
  by_name_covers all ms e n = (λ h. there (walk_all [] (lists_of n all)) refl (c.0 h).1, λ h. back (walk_all [] (lists_of n all)) refl h)
    where
      c : CoveredAny d s (lists_of n ms) ↔ (Mem n (once (names_of all)) × By d s (walk_all [] (lists_of n all)))
      c = collect_covers (once (names_of all)) (λ u. walk_all [] (lists_of u all)) ms e (once_once (names_of all)) n

      pick : ⊥ ⊎ CoveredAny d s (lists_of n all) → CoveredAny d s (lists_of n all)
      pick (inl h) = absurd h
      pick (inr h) = h

      there : (w : Walked) → walk_all [] (lists_of n all) ≡ w → By d s w → CoveredAny d s (lists_of n all)
      there conflict a h = absurd h
      there (laid xs) a h = pick ((walk_all_covers d s (lists_of n all) [] xs a).0 h)

      back : (w : Walked) → walk_all [] (lists_of n all) ≡ w → CoveredAny d s (lists_of n all) → CoveredAny d s (lists_of n ms)
      back conflict a h = absurd (no_walk n all ms e a ((once_same (names_of all) n).1 (any_named n all h)))
      back (laid xs) a h =
          c.1 ((once_same (names_of all) n).1 (any_named n all h), subst (By d s) (sym a) ((walk_all_covers d s (lists_of n all) [] xs a).1 (inr h)))

-- ---- the laws of a merge that is not refused

module _ (w : Given) (m k r : Metadata) (e : merge w m k ≡ done r) where
  -- each set has the entries of both sides, each once
  pub symbols_united : Union m.symbols k.symbols r.symbols
  unfolding together opened
  symbols_united = rw (merge_together w m k r e).is (union m.symbols k.symbols)

  pub partial_united : Union m.partial k.partial r.partial
  unfolding together opened
  partial_united = rw (merge_together w m k r e).is (union m.partial k.partial)

  pub not_found_united : Union m.not_found k.not_found r.not_found
  unfolding together opened
  not_found_united = rw (merge_together w m k r e).is (union m.not_found k.not_found)

  outcome_mappings : r.mappings ≡ (merge_together w m k r e).mappings
  unfolding together
  outcome_mappings = ap (λ (x : Metadata). x.mappings) (merge_together w m k r e).is

  outcome_names : names_of r.mappings ≡ add_all (once (once (names_of m.mappings))) (names_of k.mappings)
  unfolding opened once names_of
  outcome_names =
      ap names_of outcome_mappings
      ∙ merged_names ((opened m).mappings ++ k.mappings) (merge_together w m k r e).mappings (merge_together w m k r e).merges
      ∙ ap once (names_append (opened m).mappings k.mappings)
      ∙ add_all_append (names_of (opened m).mappings) (names_of k.mappings) []
      ∙ ap (λ (l : List ℕ). add_all (once l) (names_of k.mappings)) (enter_all_names m.mappings [])

  -- and so have the mapping names
  pub names_united : Union (names_of m.mappings) (names_of k.mappings) (names_of r.mappings)
  names_united =
      let a = names_of m.mappings in
      rw outcome_names (union_from a (names_of k.mappings) (once (once a)) (once_once (once a))
      (λ z. (λ h. (once_same a z).0 ((once_same (once a) z).0 h), λ h. (once_same (once a) z).1 ((once_same a z).1 h))))

  -- the pairs of day and symbol under a name are those of both sides together
  pub merge_covers : (d s n : ℕ) → CoveredAny d s (lists_of n r.mappings) ↔ (CoveredAny d s (lists_of n (opened m).mappings) ⊎ CoveredAny d s (lists_of n k.mappings))
  merge_covers d s n =
      let b = by_name_covers d s ((opened m).mappings ++ k.mappings) (merge_together w m k r e).mappings (merge_together w m k r e).merges n in
      let q = subst (λ (l : List (List Interval)). CoveredAny d s l ↔ (CoveredAny d s (lists_of n (opened m).mappings) ⊎ CoveredAny d s (lists_of n k.mappings))) (sym (lists_append n (opened m).mappings k.mappings))
      (any_append d s (lists_of n (opened m).mappings) (lists_of n k.mappings)) in
      subst (λ (l : List Mapping). CoveredAny d s (lists_of n l) ↔ (CoveredAny d s (lists_of n (opened m).mappings) ⊎ CoveredAny d s (lists_of n k.mappings))) (sym outcome_mappings)
      (λ h. q.0 (b.0 h), λ h. b.1 (q.1 h))
