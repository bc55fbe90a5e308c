-- Point-in-time tables as lists of entries: setting an entry keeps them well-formed, the latest entry of an instrument decides,
-- other instruments' entries stay; and the same by places, as a binary search finds them. Assumes nothing.
use Rattle.std.specs.Prelude.{◌≡◌, refl, ◌≢◌, ℕ, zero, suc, ◌+◌, ◌≤◌, ◌<◌, true, cond, List, [], ◌∷◌, ◌++◌, length, get_or, set, take, drop, T, ltb, eqb}
use Rattle.std.proofs.Common.{sym, ap, subst, ◌∙◌, arith, lt→ltb}
use Rattle.std.proofs.Math.Option.{Option, none, some}
use Rattle.std.proofs.Math.Dec.{eqb_refl, not_T}
use Rattle.std.proofs.Math.Facts.{ltb_yes, eqb_yes}
use Rattle.theory.specs.RunsTools.{cond_yes, cond_no, cond_lt, cond_ge, T_and, T_fst, T_snd, Order, less, equal, more, order}
use Rattle.map_point.specs.declared.entries.Entry.{Entry}
use Rattle.map_point.specs.Points.{ahead, rising, all_known, symbol_for, set_entry}

-- ---- the three ways of setting an entry

set_below : (x y : Entry) (ys : List Entry) → y.instrument < x.instrument → set_entry x (y ∷ ys) ≡ y ∷ set_entry x ys
unfolding set_entry
set_below x y ys h = cond_lt y.instrument x.instrument _ _ h

set_here : (x y : Entry) (ys : List Entry) → y.instrument ≡ x.instrument → set_entry x (y ∷ ys) ≡ x ∷ ys
unfolding set_entry
set_here x y ys e =
    cond_ge y.instrument x.instrument _ _ (omega arith) ∙ cond_ge x.instrument y.instrument _ _ (omega arith)

set_above : (x y : Entry) (ys : List Entry) → x.instrument < y.instrument → set_entry x (y ∷ ys) ≡ x ∷ y ∷ ys
unfolding set_entry
set_above x y ys h =
    cond_ge y.instrument x.instrument _ _ (omega arith) ∙ cond_lt x.instrument y.instrument _ _ h

symbol_own : (i : ℕ) (x : Entry) (xs : List Entry) → x.instrument ≡ i → symbol_for i (x ∷ xs) ≡ some x.symbol
unfolding symbol_for
symbol_own i x xs e = cond_yes (eqb x.instrument i) _ _ (rw e (eqb_refl i))

symbol_other : (i : ℕ) (x : Entry) (xs : List Entry) → x.instrument ≢ i → symbol_for i (x ∷ xs) ≡ symbol_for i xs
unfolding symbol_for
symbol_other i x xs d = cond_no (eqb x.instrument i) _ _ (not_T (eqb x.instrument i) (λ t. d (eqb_yes t)))

-- ---- the latest entry decides

pub set_own : (x : Entry) (xs : List Entry) → symbol_for x.instrument (set_entry x xs) ≡ some x.symbol
unfolding set_entry
set_own x [] = symbol_own x.instrument x [] refl
set_own x (y ∷ ys) = go (order y.instrument x.instrument) (set_own x ys)
  where
    go : Order y.instrument x.instrument → symbol_for x.instrument (set_entry x ys) ≡ some x.symbol → symbol_for x.instrument (set_entry x (y ∷ ys)) ≡ some x.symbol
    go (less h) rest = rw (set_below x y ys h) (symbol_other x.instrument y (set_entry x ys) (omega arith) ∙ rest)
    go (equal h) rest = rw (set_here x y ys h) (symbol_own x.instrument x ys refl)
    go (more h) rest = rw (set_above x y ys h) (symbol_own x.instrument x (y ∷ ys) refl)

pub set_other : (x : Entry) (xs : List Entry) (i : ℕ) → x.instrument ≢ i → symbol_for i (set_entry x xs) ≡ symbol_for i xs
unfolding set_entry symbol_for
set_other x [] i d = symbol_other i x [] d
set_other x (y ∷ ys) i d = go (order y.instrument x.instrument) (set_other x ys i d)
  where
    go : Order y.instrument x.instrument → symbol_for i (set_entry x ys) ≡ symbol_for i ys → symbol_for i (set_entry x (y ∷ ys)) ≡ symbol_for i (y ∷ ys)
    go (less h) rest = rw (set_below x y ys h) (ap (λ (o : Option ℕ). cond (eqb y.instrument i) (some y.symbol) o) rest)
    go (equal h) rest = rw (set_here x y ys h) (symbol_other i x ys d ∙ sym (symbol_other i y ys (λ e. d (omega arith))))
    go (more h) rest = rw (set_above x y ys h) (symbol_other i x (y ∷ ys) d)

-- the table after the entries of a list, the latest of them first
unfoldable pub after : List Entry → List Entry
unfolding set_entry
after [] = []
after (x ∷ xs) = set_entry x (after xs)

-- an instrument's symbol is that of its latest entry
pub latest : (xs : List Entry) (i : ℕ) → symbol_for i (after xs) ≡ symbol_for i xs
unfolding after symbol_for
latest [] i = refl
latest (x ∷ xs) i = go (order x.instrument i) (latest xs i)
  where
    other : symbol_for i (after xs) ≡ symbol_for i xs → x.instrument ≢ i → symbol_for i (after (x ∷ xs)) ≡ symbol_for i (x ∷ xs)
    other rest d = set_other x (after xs) i d ∙ rest ∙ sym (symbol_other i x xs d)

    go : Order x.instrument i → symbol_for i (after xs) ≡ symbol_for i xs → symbol_for i (after (x ∷ xs)) ≡ symbol_for i (x ∷ xs)
    go (less h) rest = other rest (omega arith)
    go (equal h) rest = subst (λ (k : ℕ). symbol_for k (after (x ∷ xs)) ≡ symbol_for k (x ∷ xs)) h (set_own x (after xs) ∙ sym (symbol_own x.instrument x xs refl))
    go (more h) rest = other rest (omega arith)

-- ---- other entries stay, and the table stays well-formed

-- the entries of other instruments
unfoldable pub others : ℕ → List Entry → List Entry
others i [] = []
others i (x ∷ xs) = let rest = others i xs in cond (eqb x.instrument i) rest (x ∷ rest)

others_own : (i : ℕ) (x : Entry) (xs : List Entry) → x.instrument ≡ i → others i (x ∷ xs) ≡ others i xs
unfolding others
others_own i x xs e = cond_yes (eqb x.instrument i) _ _ (rw e (eqb_refl i))

others_other : (i : ℕ) (x : Entry) (xs : List Entry) → x.instrument ≢ i → others i (x ∷ xs) ≡ x ∷ others i xs
unfolding others
others_other i x xs d = cond_no (eqb x.instrument i) _ _ (not_T (eqb x.instrument i) (λ t. d (eqb_yes t)))

pub set_others : (x : Entry) (xs : List Entry) → others x.instrument (set_entry x xs) ≡ others x.instrument xs
unfolding set_entry others
set_others x [] = others_own x.instrument x [] refl
set_others x (y ∷ ys) = go (order y.instrument x.instrument) (set_others x ys)
  where
    go : Order y.instrument x.instrument → others x.instrument (set_entry x ys) ≡ others x.instrument ys → others x.instrument (set_entry x (y ∷ ys)) ≡ others x.instrument (y ∷ ys)
    go (less h) rest =
        let d : y.instrument ≢ x.instrument = omega arith in
        rw (set_below x y ys h)
        (others_other x.instrument y (set_entry x ys) d ∙ ap (λ (es : List Entry). y ∷ es) rest ∙ sym (others_other x.instrument y ys d))
    go (equal h) rest = rw (set_here x y ys h) (others_own x.instrument x ys refl ∙ sym (others_own x.instrument y ys h))
    go (more h) rest = rw (set_above x y ys h) (others_own x.instrument x (y ∷ ys) refl)

pub set_known : (names : ℕ) (x : Entry) (xs : List Entry) → x.symbol < names → T (all_known names xs) → T (all_known names (set_entry x xs))
unfolding set_entry all_known
set_known names x [] h k = T_and (ltb x.symbol names) true (lt→ltb _ _ h) tt
set_known names x (y ∷ ys) h k = go (order y.instrument x.instrument) (set_known names x ys h)
  where
    first : T (ltb y.symbol names)
    first = T_fst (ltb y.symbol names) (all_known names ys) k

    rest : T (all_known names ys)
    rest = T_snd (ltb y.symbol names) (all_known names ys) k

    go : Order y.instrument x.instrument → (T (all_known names ys) → T (all_known names (set_entry x ys))) → T (all_known names (set_entry x (y ∷ ys)))
    go (less o) f = rw (set_below x y ys o) (T_and (ltb y.symbol names) _ first (f rest))
    go (equal o) f = rw (set_here x y ys o) (T_and (ltb x.symbol names) _ (lt→ltb _ _ h) rest)
    go (more o) f = rw (set_above x y ys o) (T_and (ltb x.symbol names) _ (lt→ltb _ _ h) k)

ahead_set : (y x : Entry) (ys : List Entry) → y.instrument < x.instrument → T (ahead y ys) → T (ahead y (set_entry x ys))
unfolding ahead set_entry
ahead_set y x [] h a = lt→ltb _ _ h
ahead_set y x (z ∷ zs) h a = go (order z.instrument x.instrument)
  where
    go : Order z.instrument x.instrument → T (ahead y (set_entry x (z ∷ zs)))
    go (less o) = rw (set_below x z zs o) a
    go (equal o) = rw (set_here x z zs o) (lt→ltb _ _ h)
    go (more o) = rw (set_above x z zs o) (lt→ltb _ _ h)

ahead_same : (x y : Entry) (ys : List Entry) → y.instrument ≡ x.instrument → T (ahead y ys) → T (ahead x ys)
unfolding ahead
ahead_same x y [] e a = tt
ahead_same x y (z ∷ zs) e a = let h : y.instrument < z.instrument = ltb_yes a in lt→ltb x.instrument z.instrument (omega arith)

pub set_rising : (x : Entry) (xs : List Entry) → T (rising xs) → T (rising (set_entry x xs))
unfolding set_entry rising ahead
set_rising x [] r = tt
set_rising x (y ∷ ys) r = go (order y.instrument x.instrument) (set_rising x ys)
  where
    first : T (ahead y ys)
    first = T_fst (ahead y ys) (rising ys) r

    rest : T (rising ys)
    rest = T_snd (ahead y ys) (rising ys) r

    go : Order y.instrument x.instrument → (T (rising ys) → T (rising (set_entry x ys))) → T (rising (set_entry x (y ∷ ys)))
    go (less o) f = rw (set_below x y ys o) (T_and (ahead y (set_entry x ys)) (rising (set_entry x ys)) (ahead_set y x ys o first) (f rest))
    go (equal o) f = rw (set_here x y ys o) (T_and (ahead x ys) (rising ys) (ahead_same x y ys o first) rest)
    go (more o) f = rw (set_above x y ys o) (T_and (ahead x (y ∷ ys)) (rising (y ∷ ys)) (lt→ltb _ _ o) r)

-- ---- by places

-- how many entries come first that are of a lower instrument
unfoldable pub place_of : ℕ → List Entry → ℕ
place_of i [] = 0
place_of i (x ∷ xs) = let rest = place_of i xs in cond (ltb x.instrument i) (suc rest) 0

place_below : (i : ℕ) (x : Entry) (xs : List Entry) → x.instrument < i → place_of i (x ∷ xs) ≡ suc (place_of i xs)
unfolding place_of
place_below i x xs h = cond_lt x.instrument i _ _ h

place_here : (i : ℕ) (x : Entry) (xs : List Entry) → i ≤ x.instrument → place_of i (x ∷ xs) ≡ 0
unfolding place_of
place_here i x xs h = cond_ge x.instrument i _ _ h

-- an entry is below all that come after it
first_below : (d x : Entry) (xs : List Entry) → T (rising (x ∷ xs)) → (k : ℕ) → k < length xs → x.instrument < (get_or xs k d).instrument
unfolding rising ahead
first_below d x [] r k h = absurd (omega arith)
first_below d x (y ∷ ys) r zero h = ltb_yes (T_fst (ltb x.instrument y.instrument) (rising (y ∷ ys)) r)
first_below d x (y ∷ ys) r (suc k) h =
    let s : T (rising (y ∷ ys)) = T_snd (ltb x.instrument y.instrument) (rising (y ∷ ys)) r in
    let l : x.instrument < y.instrument = ltb_yes (T_fst (ltb x.instrument y.instrument) (rising (y ∷ ys)) r) in
    omega (arith, first_below d y ys s k (omega arith))

-- what a search finds is the place: the entry before it is below the instrument, and the one there is not
pub place_is : (i : ℕ) (d : Entry) (xs : List Entry) → T (rising xs) → (r : ℕ) → r ≤ length xs
    → ((k : ℕ) → k + 1 ≡ r → (get_or xs k d).instrument < i) → (r < length xs → i ≤ (get_or xs r d).instrument) → place_of i xs ≡ r
unfolding place_of rising
place_is i d [] s r h f g = omega arith
place_is i d (x ∷ xs) s zero h f g = place_here i x xs (g (omega arith))
place_is i d (x ∷ xs) s (suc r) h f g =
    place_below i x xs (low r refl)
    ∙ ap suc (place_is i d xs (T_snd (ahead x xs) (rising xs) s) r (omega arith) (λ k e. f (suc k) (omega arith)) (λ l. g (omega arith)))
  where
    low : (k : ℕ) → k ≡ r → x.instrument < i
    low zero e = f 0 (omega arith)
    low (suc k) e = omega (arith, first_below d x xs s k (omega arith), f (suc k) (omega arith))

-- the symbol is that of the entry at the place, if it is the instrument's
pub symbol_at : (i : ℕ) (d : Entry) (xs : List Entry) → place_of i xs < length xs → (get_or xs (place_of i xs) d).instrument ≡ i
    → symbol_for i xs ≡ some (get_or xs (place_of i xs) d).symbol
unfolding place_of
symbol_at i d [] h e = absurd (omega arith)
symbol_at i d (x ∷ xs) h e = go (order x.instrument i) (symbol_at i d xs)
  where
    go : Order x.instrument i
        → (place_of i xs < length xs → (get_or xs (place_of i xs) d).instrument ≡ i → symbol_for i xs ≡ some (get_or xs (place_of i xs) d).symbol)
        → symbol_for i (x ∷ xs) ≡ some (get_or (x ∷ xs) (place_of i (x ∷ xs)) d).symbol
    go (less o) f =
        let p : place_of i (x ∷ xs) ≡ suc (place_of i xs) = place_below i x xs o in
        rw p (symbol_other i x xs (omega arith) ∙ f (omega (arith, rw p at h)) (rw p at e))
    go (equal o) f = rw (place_here i x xs (omega arith)) (symbol_own i x xs o)
    go (more o) f = let c : x.instrument ≡ i = rw (place_here i x xs (omega arith)) at e in absurd (omega arith)

symbol_above : (i : ℕ) (d : Entry) (xs : List Entry) → ((k : ℕ) → k < length xs → i < (get_or xs k d).instrument) → symbol_for i xs ≡ none
unfolding symbol_for
symbol_above i d [] g = refl
symbol_above i d (x ∷ xs) g =
    symbol_other i x xs (λ e. omega (arith, g 0 (omega arith))) ∙ symbol_above i d xs (λ k h. g (suc k) (omega arith))

pub symbol_none : (i : ℕ) (d : Entry) (xs : List Entry) → T (rising xs) → (place_of i xs < length xs → (get_or xs (place_of i xs) d).instrument ≢ i)
    → symbol_for i xs ≡ none
unfolding place_of symbol_for rising
symbol_none i d [] s f = refl
symbol_none i d (x ∷ xs) s f = go (order x.instrument i) (symbol_none i d xs)
  where
    rest : T (rising xs)
    rest = T_snd (ahead x xs) (rising xs) s

    go : Order x.instrument i
        → (T (rising xs) → (place_of i xs < length xs → (get_or xs (place_of i xs) d).instrument ≢ i) → symbol_for i xs ≡ none)
        → symbol_for i (x ∷ xs) ≡ none
    go (less o) next =
        let p : place_of i (x ∷ xs) ≡ suc (place_of i xs) = place_below i x xs o in
        symbol_other i x xs (omega arith) ∙ next rest (λ h e. f (omega arith) (rw p e))
    go (equal o) next =
        let p : place_of i (x ∷ xs) ≡ 0 = place_here i x xs (omega arith) in
        absurd (f (omega arith) (rw p o))
    go (more o) next =
        symbol_other i x xs (omega arith)
        ∙ symbol_above i d xs (λ k h. omega (arith, first_below d x xs s k h))

-- an entry set where its instrument stands
pub set_at : (x d : Entry) (xs : List Entry) → place_of x.instrument xs < length xs → (get_or xs (place_of x.instrument xs) d).instrument ≡ x.instrument
    → set_entry x xs ≡ set xs (place_of x.instrument xs) x
unfolding place_of
set_at x d [] h e = absurd (omega arith)
set_at x d (y ∷ ys) h e = go (order y.instrument x.instrument) (set_at x d ys)
  where
    go : Order y.instrument x.instrument
        → (place_of x.instrument ys < length ys → (get_or ys (place_of x.instrument ys) d).instrument ≡ x.instrument → set_entry x ys ≡ set ys (place_of x.instrument ys) x)
        → set_entry x (y ∷ ys) ≡ set (y ∷ ys) (place_of x.instrument (y ∷ ys)) x
    go (less o) f =
        let p : place_of x.instrument (y ∷ ys) ≡ suc (place_of x.instrument ys) = place_below x.instrument y ys o in
        rw p (set_below x y ys o ∙ ap (λ (es : List Entry). y ∷ es) (f (omega (arith, rw p at h)) (rw p at e)))
    go (equal o) f = rw (place_here x.instrument y ys (omega arith)) (set_here x y ys o)
    go (more o) f = let c : y.instrument ≡ x.instrument = rw (place_here x.instrument y ys (omega arith)) at e in absurd (omega arith)

-- an entry set where its instrument does not
pub set_new : (x d : Entry) (xs : List Entry) → (place_of x.instrument xs < length xs → (get_or xs (place_of x.instrument xs) d).instrument ≢ x.instrument)
    → set_entry x xs ≡ take (place_of x.instrument xs) xs ++ x ∷ drop (place_of x.instrument xs) xs
unfolding place_of set_entry
set_new x d [] f = refl
set_new x d (y ∷ ys) f = go (order y.instrument x.instrument) (set_new x d ys)
  where
    go : Order y.instrument x.instrument
        → ((place_of x.instrument ys < length ys → (get_or ys (place_of x.instrument ys) d).instrument ≢ x.instrument)
        → set_entry x ys ≡ take (place_of x.instrument ys) ys ++ x ∷ drop (place_of x.instrument ys) ys)
        → set_entry x (y ∷ ys) ≡ take (place_of x.instrument (y ∷ ys)) (y ∷ ys) ++ x ∷ drop (place_of x.instrument (y ∷ ys)) (y ∷ ys)
    go (less o) next =
        let p : place_of x.instrument (y ∷ ys) ≡ suc (place_of x.instrument ys) = place_below x.instrument y ys o in
        rw p (set_below x y ys o ∙ ap (λ (es : List Entry). y ∷ es) (next (λ h e. f (omega arith) (rw p e))))
    go (equal o) next =
        let p : place_of x.instrument (y ∷ ys) ≡ 0 = place_here x.instrument y ys (omega arith) in
        absurd (f (omega arith) (rw p o))
    go (more o) next = rw (place_here x.instrument y ys (omega arith)) (set_above x y ys o)
