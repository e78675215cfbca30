-- Laws of the loops that search for a pair at fault: what each has done, a turn of it, and its end.
use Rattle.std.specs.Prelude.{ℕ, zero, suc, ◌+◌, ◌-◌, ◌≤◌, ◌<◌, ◌≡◌, Bool, true, ◌&&◌, ◌||◌, List, length, get_or, set, replicate}
use Rattle.std.proofs.Math.Path.{refl, sym}
use Rattle.std.proofs.Common.{ap, ◌∙◌, add-zero, add-one, arith, below_more, length-set, get_or-set_same, get_or-set_other}
use Rattle.std.proofs.Math.Bool.{false, or-true, or-false, and-false, false≢true}
use Rattle.rules.specs.Judge.{same_place}
use Rattle.layout.specs.Sizes.{POSITIONS}
use Rattle.basic_laws.specs.Truth.{not_true, and_left}
use Rattle.basic_laws.specs.Numbers.{replicate_at}
use Rattle.model_sets.specs.Search.{find_from, pair_or, pair_from, search_pair}
use Rattle.model_code.specs.Six.{Told}
use Rattle.model_names.specs.Places.{places_of}
use Rattle.model_pairs.specs.Rows.{is_next, row_in, clash_in, Tells, fault_in}

-- A set of `POSITIONS` to which the numbers below i that pass a test are added.
pub record Added (f : ℕ → Bool) (start set : List Bool) (i : ℕ) : Type 0 where
  pub len : length set ≡ POSITIONS
  pub done : (k : ℕ) → k < i → get_or set k false ≡ (get_or start k false || f k)
  pub rest : (k : ℕ) → i ≤ k → get_or set k false ≡ get_or start k false

pub added_none : (f : ℕ → Bool) (start : List Bool) → length start ≡ POSITIONS → Added f start start 0
added_none f start l = record { len = l; done = λ k h. absurd (omega arith); rest = λ k h. refl }

module _ (f : ℕ → Bool) (start old : List Bool) (i : ℕ) (a : Added f start old i) where
  pub added_one : i < POSITIONS → f i ≡ true → Added f start (set old i true) (i + 1)
  added_one h e =
      record {
        len = length-set old i true ∙ a.len;
        done =
            below_more (λ (j : ℕ). get_or (set old i true) j false ≡ (get_or start j false || f j)) i
            (λ k b. get_or-set_other old i k true false (omega arith) ∙ a.done k b)
            (rw (e, or-true) (get_or-set_same old i true false (omega (arith, a.len))));
        rest = λ k l. get_or-set_other old i k true false (omega arith) ∙ a.rest k (omega arith);
      }

  pub added_skip : f i ≡ false → Added f start old (i + 1)
  added_skip e =
      record {
        len = a.len;
        done =
            below_more (λ (j : ℕ). get_or old j false ≡ (get_or start j false || f j)) i a.done
            (rw (e, or-false) (a.rest i (omega arith)));
        rest = λ k l. a.rest k (omega arith);
      }

-- A set holds the places that may come next in some row before u where p may.
pub record Beside (next : ℕ → ℕ → Bool) (p u : ℕ) (set : List Bool) : Type 0 where
  pub none : u ≡ 0 → (q : ℕ) → q < POSITIONS → get_or set q false ≡ false
  pub has : 1 ≤ u → (q : ℕ) → q < POSITIONS → get_or set q false ≡ clash_in next (u - 1) p q

clash_row : (next : ℕ → ℕ → Bool) (u p q : ℕ) (b : Bool) → (u ≡ 0 → b ≡ false) → (1 ≤ u → b ≡ clash_in next (u - 1) p q) → (b || (next u p && next u q)) ≡ clash_in next u p q
clash_row next zero p q b none has = rw (none refl)
clash_row next (suc u) p q b none has = let z : suc u - 1 ≡ u = omega arith in rw (has (omega arith), z)

pub beside_none : (next : ℕ → ℕ → Bool) (p : ℕ) → Beside next p 0 (replicate POSITIONS false)
beside_none next p = record { none = λ z q h. replicate_at POSITIONS false q; has = λ l. absurd (omega arith) }

module _ (next : ℕ → ℕ → Bool) (p u : ℕ) (set : List Bool) (b : Beside next p u set) where
  more : (q : ℕ) → q < POSITIONS → (get_or set q false || (next u p && next u q)) ≡ clash_in next (u + 1 - 1) p q
  more q h =
      let z : u + 1 - 1 ≡ u = omega arith in
      rw z (clash_row next u p q (get_or set q false) (λ e. b.none e q h) (λ l. b.has l q h))

  pub beside_row : (row : List ℕ) (after : List Bool) → next u p ≡ true → ((q : ℕ) → q < POSITIONS → is_next (get_or row q 0) ≡ next u q)
      → ((q : ℕ) → q < POSITIONS → get_or after q false ≡ (get_or set q false || is_next (get_or row q 0))) → Beside next p (u + 1) after
  beside_row row after e r m =
      record { none = λ z. absurd (omega arith); has = λ l q h. m q h ∙ rw (r q h) (rw e at (more q h)) }

  pub beside_skip : next u p ≡ false → Beside next p (u + 1) set
  beside_skip e = record { none = λ z. absurd (omega arith); has = λ l q h. sym (or-false (get_or set q false)) ∙ (rw e at (more q h)) }

  pub beside_end : (n q : ℕ) → u ≡ n + 1 → q < POSITIONS → get_or set q false ≡ clash_in next n p q
  beside_end n q e h = let z : u - 1 ≡ n = omega arith in rw z at (b.has (omega arith) q h)

-- The numbers from q on are still to be searched for the first that passes, and those before do not pass: `end` is behind the last.
module _ (f : ℕ → Bool) (end : ℕ) where
  abbrev left : ℕ → ℕ
  left q = find_from f (end - q) q

  left_more : (q : ℕ) → q < end → f q ≡ false → left q ≡ left (q + 1)
  left_more q h e =
      let l : end - q ≡ suc (end - (q + 1)) = omega arith in
      rw (l, e, add-one q)

  left_found : (q : ℕ) → q < end → f q ≡ true → left q ≡ q
  left_found q h e =
      let l : end - q ≡ suc (end - suc q) = omega arith in
      rw (l, e)

  left_none : (q : ℕ) → end ≤ q → left q ≡ 0
  left_none q h =
      let l : end - q ≡ 0 = omega arith in
      rw l

  left_past : (d q : ℕ) → q + d ≤ end → ((x : ℕ) → q ≤ x → x < q + d → f x ≡ true → ⊥) → left q ≡ left (q + d)
  left_past zero q h fails = rw (add-zero q)
  left_past (suc d) q h fails =
      let m : q + suc d ≡ q + 1 + d = omega arith in
      left_more q (omega arith) (not_true (f q) (fails q (omega arith) (omega arith)))
      ∙ rw m (left_past d (q + 1) (omega arith) (λ x a b. fails x (omega arith) (omega arith)))

  left_on : (q r : ℕ) → q ≤ r → r ≤ end → ((x : ℕ) → q ≤ x → x < r → f x ≡ true → ⊥) → left q ≡ left r
  left_on q r a b fails =
      let m : r ≡ q + (r - q) = omega arith in
      rw m (left_past (r - q) q (omega arith) (λ x c d. fails x c (omega arith)))

-- The search for the first place after p that is at fault with it has come to q.
pub record Seeks (s names : List ℕ) (F : ℕ → ℕ → Bool) (n p q : ℕ) : Type 0 where
  pub after : p < q
  pub within : q ≤ n + 1
  pub still : find_from (fault_in s names F n p) (n + 1 - q) q ≡ find_from (fault_in s names F n p) (n - p) (suc p)

module _ (s names : List ℕ) (F : ℕ → ℕ → Bool) (n p : ℕ) where
  pub seeks_start : p ≤ n → Seeks s names F n p (p + 1)
  seeks_start h =
      let l : n + 1 - suc p ≡ n - p = omega arith in
      record { after = omega arith; within = omega arith; still = rw (add-one p, l) }

  module _ (q : ℕ) (k : Seeks s names F n p q) where
    pub seeks_past : q ≤ n → fault_in s names F n p q ≡ false → Seeks s names F n p (q + 1)
    seeks_past h e =
        let a = k.after in
        record {
          after = omega arith;
          within = omega arith;
          still = sym (left_more (fault_in s names F n p) (n + 1) q (omega arith) e) ∙ k.still;
        }

    pub seeks_found : q ≤ n → fault_in s names F n p q ≡ true → q ≡ find_from (fault_in s names F n p) (n - p) (suc p)
    seeks_found h e = sym (left_found (fault_in s names F n p) (n + 1) q (omega arith) e) ∙ k.still

    pub seeks_none : n < q → 0 ≡ find_from (fault_in s names F n p) (n - p) (suc p)
    seeks_none h = sym (left_none (fault_in s names F n p) (n + 1) q (omega arith)) ∙ k.still

  -- A place with another name is not at fault with p.
  other_name : (x : ℕ) → (same_place s (places_of names n) p x ≡ true → ⊥) → fault_in s names F n p x ≡ true → ⊥
  unfolding fault_in
  other_name x ne e = ne (and_left (same_place s (places_of names n) p x) _ e)

  pub seeks_on : (q r : ℕ) → Seeks s names F n p q → q ≤ r → r ≤ n + 1 → ((x : ℕ) → q ≤ x → x < r → same_place s (places_of names n) p x ≡ true → ⊥) → Seeks s names F n p r
  seeks_on q r k a b unlike =
      let l = k.after in
      record {
        after = omega arith;
        within = b;
        still = sym (left_on (fault_in s names F n p) (n + 1) q r a b (λ x c d. other_name x (unlike x c d))) ∙ k.still;
      }

-- What the test of a place comes to.
module _ (s names table : List ℕ) (n code : ℕ) (and : Bool) (F : ℕ → ℕ → Bool) (tells : Tells table n code and F) (p q : ℕ) (from : 1 ≤ p) (less : p < q) (to : q ≤ n)
    (near : Bool) (nearby : near ≡ clash_in (row_in table) n p q) where
  pub apart : near ≡ false → fault_in s names F n p q ≡ false
  unfolding fault_in
  apart e =
      let none : F p q ≡ false = not_true (F p q) (λ (x : F p q ≡ true). false≢true (sym e ∙ nearby ∙ tells.near p q from less to x)) in
      rw (none, and-false)

  -- The code or the rows tell it where some row has both.
  told_so : (b r : Bool) → and ≡ b → near ≡ true → (and ≡ false → r ≡ true) → (and ≡ true → Told table p q code r) → r ≡ F p q
  told_so false r is e plain told = plain is ∙ sym (tells.plain is p q from less to (sym nearby ∙ e))
  told_so true r is e plain told = tells.exact is p q from less to r (told is)

  module _ (e : near ≡ true) (r : Bool) (plain : and ≡ false → r ≡ true) (told : and ≡ true → Told table p q code r) where
    pub at_fault : same_place s (places_of names n) p q ≡ true → r ≡ true → fault_in s names F n p q ≡ true
    unfolding fault_in
    at_fault same is = rw (same) (sym (told_so and r refl e plain told) ∙ is)

    pub not_fault : r ≡ false → fault_in s names F n p q ≡ false
    unfolding fault_in
    not_fault is =
        let none : F p q ≡ false = sym (told_so and r refl e plain told) ∙ is in
        rw (none, and-false)

-- The search for the first pair at fault has come to p.
pub record SeeksPair (s names : List ℕ) (F : ℕ → ℕ → Bool) (n p : ℕ) : Type 0 where
  pub from : 1 ≤ p
  pub within : p ≤ n + 1
  pub still : pair_from (fault_in s names F n) (n + 1 - p) p ≡ search_pair (fault_in s names F n) n

other_than_0 : (p q : ℕ) (r : ℕ × ℕ) → (q ≡ 0 → ⊥) → pair_or p q r ≡ (p, q)
other_than_0 p zero r ne = absurd (ne refl)
other_than_0 p (suc q) r ne = refl

module _ (s names : List ℕ) (F : ℕ → ℕ → Bool) (n : ℕ) where
  pub pairs_start : SeeksPair s names F n 1
  pairs_start =
      let l : n + 1 - 1 ≡ n = omega arith in
      record { from = omega arith; within = omega arith; still = rw l }

  module _ (p : ℕ) (k : SeeksPair s names F n p) where
    pair_more : p ≤ n → pair_from (fault_in s names F n) (n + 1 - p) p
        ≡ pair_or p (find_from (fault_in s names F n p) (n - p) (suc p)) (pair_from (fault_in s names F n) (n - p) (suc p))
    pair_more h =
        let l : n + 1 - p ≡ suc (n - p) = omega arith in
        rw l

    pub pairs_past : (q : ℕ) → p ≤ n → q ≡ find_from (fault_in s names F n p) (n - p) (suc p) → q ≡ 0 → SeeksPair s names F n (p + 1)
    pairs_past q h e z =
        let l : n + 1 - suc p ≡ n - p = omega arith in
        let f : find_from (fault_in s names F n p) (n - p) (suc p) ≡ 0 = sym e ∙ z in
        record { from = omega arith; within = omega arith; still = rw (add-one p, l) (rw f at (sym (pair_more h) ∙ k.still)) }

    pub pairs_found : (q : ℕ) → p ≤ n → q ≡ find_from (fault_in s names F n p) (n - p) (suc p) → (q ≡ 0 → ⊥) → (p, q) ≡ search_pair (fault_in s names F n) n
    pairs_found q h e ne =
        let rest : ℕ × ℕ = pair_from (fault_in s names F n) (n - p) (suc p) in
        sym (other_than_0 p q rest ne) ∙ ap (λ (x : ℕ). pair_or p x rest) e ∙ sym (pair_more h) ∙ k.still

    pub pairs_none : n < p → (0, 0) ≡ search_pair (fault_in s names F n) n
    pairs_none h =
        let l : n + 1 - p ≡ 0 = omega arith in
        rw l at k.still
