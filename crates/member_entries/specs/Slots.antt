-- What putting a member leaves in the table: number by number.
use Rattle.std.specs.Prelude.{ℕ, ◌+◌, ◌*◌, ◌≤◌, ◌<◌, ◌≡◌, Bool, true, ◌&&◌, cond, ◌⊎◌, List, leb, ltb, length, get_or, set}
use Rattle.std.proofs.Math.Path.{refl}
use Rattle.std.proofs.Common.{◌∙◌, subst, inl, inr, arith, length-set, get_or-set_same, get_or-set_other, lt-ltb, le-leb, leb-true, ltb-true}
use Rattle.std.proofs.Math.Decide.{ℕ_discrete}
use Rattle.rules.specs.Bytes.{GRPGTCNT}
use Rattle.layout.specs.Sizes.{POSITIONS, AND_GROUPS, REACHES}
use Rattle.basic_laws.specs.Truth.{and_left, and_right, bool_cases}
use Rattle.model_links.specs.Each.{each, each_keeps}
use Rattle.member_entries.specs.Entries.{put_free, marked, record_from, put_places, put_outer, put_outers, put_member}
use Rattle.member_entries.specs.Writes.{free_length, free_other, free_put, free_kept}

-- Numbers put at some places of a range, each where none is yet.
module _ (t : ℕ → Bool) (at x : ℕ → ℕ) (apart : (i j : ℕ) → at i ≡ at j → i ≡ j) where
  abbrev pub put_at : List ℕ → ℕ → List ℕ
  put_at S i = cond (t i) (put_free S (at i) (x i)) S

  turn_length : (S : List ℕ) (i : ℕ) → length (put_at S i) ≡ length S
  turn_length S i = bool_cases (t i) (λ e. rw e (free_length S (at i) (x i))) (λ e. rw e)

  turn_other : (S : List ℕ) (i k : ℕ) → (t i ≡ true → k ≡ at i → ⊥) → get_or (put_at S i) k 0 ≡ get_or S k 0
  turn_other S i k ne = bool_cases (t i) (λ e. rw e (free_other S (at i) (x i) k (ne e))) (λ e. rw e)

  turn_kept : (S : List ℕ) (i k : ℕ) → 1 ≤ get_or S k 0 → get_or (put_at S i) k 0 ≡ get_or S k 0
  turn_kept S i k some = bool_cases (t i) (λ e. rw e (free_kept S (at i) (x i) k some)) (λ e. rw e)

  module _ (M : List ℕ) (a b : ℕ) (le : a ≤ b) where
    pub each_length : length (each put_at M a b) ≡ length M
    each_length = each_keeps put_at a b (λ S i. length S ≡ length M) (λ S i l h e. turn_length S i ∙ e) M le refl

    pub each_other : (k : ℕ) → ((i : ℕ) → a ≤ i → i < b → t i ≡ true → k ≡ at i → ⊥) → get_or (each put_at M a b) k 0 ≡ get_or M k 0
    each_other k ne = each_keeps put_at a b (λ S i. get_or S k 0 ≡ get_or M k 0) (λ S i l h e. turn_other S i k (ne i l h) ∙ e) M le refl

    pub each_kept : (k : ℕ) → 1 ≤ get_or M k 0 → get_or (each put_at M a b) k 0 ≡ get_or M k 0
    each_kept k some = each_keeps put_at a b (λ S i. get_or S k 0 ≡ get_or M k 0) (λ S i l h e. turn_kept S i k (omega (arith, e)) ∙ e) M le refl

    -- This stands at the place u when all before i are done.
    abbrev Done : ℕ → List ℕ → ℕ → Type 0
    Done u S i = (length S ≡ length M) × (i ≤ u → get_or S (at u) 0 ≡ 0) × (u < i → get_or S (at u) 0 ≡ x u)

    pub each_put : (u : ℕ) → a ≤ u → u < b → t u ≡ true → at u < length M → get_or M (at u) 0 ≡ 0 → get_or (each put_at M a b) (at u) 0 ≡ x u
    each_put u from to is room zero_there =
        (each_keeps put_at a b (Done u) step M le (refl, λ l. zero_there, λ l. absurd (omega arith))).2 to
      where
        step : (S : List ℕ) (i : ℕ) → a ≤ i → i < b → Done u S i → Done u (put_at S i) (i + 1)
        step S i l h (n, z, y) = go (ℕ_discrete u i)
          where
            go : Dec (u ≡ i) → Done u (put_at S i) (i + 1)
            go (yes e) = (
              turn_length S i ∙ n,
              λ q. absurd (omega arith),
              λ q. subst (λ (j : ℕ). get_or (put_at S j) (at u) 0 ≡ x u) e (rw is (free_put S (at u) (x u) (omega arith) (z (omega arith)))),
            )
            go (no ne) = (
              turn_length S i ∙ n,
              λ q. turn_other S i (at u) (λ o c. ne (apart u i c)) ∙ z (omega arith),
              λ q. turn_other S i (at u) (λ o c. ne (apart u i c)) ∙ y (omega arith),
            )

-- Where the member is kept that holds the place v, or the group that ends with v.
abbrev pub Slot : (base : ℕ) (lasts : List ℕ) (groups s v : ℕ) → Type 0
Slot base lasts groups s v = ((v ≤ GRPGTCNT) × (s ≡ base + v)) ⊎ ((n : ℕ) × (1 ≤ n) × (n ≤ groups) × (s ≡ record_from base n + 3) × (v ≡ get_or lasts n 0))

-- What was there in M is there in S.
abbrev pub Kept : (base : ℕ) (lasts : List ℕ) (groups : ℕ) (M S : List ℕ) → Type 0
Kept base lasts groups M S = (s v : ℕ) → Slot base lasts groups s v → 1 ≤ get_or M s 0 → get_or S s 0 ≡ get_or M s 0

-- The table S is M with the member h put.
pub record Put (base : ℕ) (T lasts : List ℕ) (groups w h lo hi required : ℕ) (M S : List ℕ) : Type 0 where
  pub len : length S ≡ length M
  pub taken : (s v : ℕ) → Slot base lasts groups s v → lo ≤ v → v < hi → get_or M s 0 ≡ 0 → get_or S s 0 ≡ marked T v w h
  pub other : (s v : ℕ) → Slot base lasts groups s v → (lo ≤ v → v < hi → ⊥) → get_or S s 0 ≡ get_or M s 0
  pub kept : Kept base lasts groups M S
  pub group : get_or S (base + POSITIONS + h) 0 ≡ groups + 1
  pub due : get_or S (base + 2 * POSITIONS + h) 0 ≡ required
  pub rest :
      (k : ℕ)
      → ((u : ℕ) → u ≤ GRPGTCNT → k ≡ base + u → ⊥)
      → ((n : ℕ) → 1 ≤ n → n ≤ groups → k ≡ record_from base n + 3 → ⊥)
      → (k ≡ base + POSITIONS + h → ⊥)
      → (k ≡ base + 2 * POSITIONS + h → ⊥)
      → get_or S k 0 ≡ get_or M k 0

module _ (base : ℕ) (T lasts : List ℕ) (groups w h lo hi required : ℕ) (M : List ℕ) (room : base + REACHES ≤ length M) (few : groups ≤ AND_GROUPS) (h_to : h ≤ GRPGTCNT) (le : lo ≤ hi) (hi_to : hi ≤ POSITIONS) where
  abbrev here : ℕ → Bool
  here n = leb lo (get_or lasts n 0) && ltb (get_or lasts n 0) hi

  abbrev always : ℕ → Bool
  always n = true

  abbrev mark_place : ℕ → ℕ
  mark_place u = marked T u w h

  abbrev mark_outer : ℕ → ℕ
  mark_outer n = marked T (get_or lasts n 0) w h

  abbrev place_at : ℕ → ℕ
  place_at u = base + u

  abbrev outer_at : ℕ → ℕ
  outer_at n = record_from base n + 3

  apart_places : (i j : ℕ) → place_at i ≡ place_at j → i ≡ j
  apart_places i j e = omega arith

  apart_outers : (i j : ℕ) → outer_at i ≡ outer_at j → i ≡ j
  apart_outers i j e = omega arith

  abbrev P : List ℕ
  P = each (put_at always place_at mark_place apart_places) M lo hi

  abbrev Q : List ℕ
  Q = each (put_at here outer_at mark_outer apart_outers) P 1 (groups + 1)

  member_is : put_member M base T lasts groups w h lo hi required ≡ set (set Q (base + POSITIONS + h) (groups + 1)) (base + 2 * POSITIONS + h) required
  unfolding put_member put_places put_outers put_outer
  member_is = refl

  len_p : length P ≡ length M
  len_p = each_length always place_at mark_place apart_places M lo hi le

  len_q : length Q ≡ length M
  len_q = each_length here outer_at mark_outer apart_outers P 1 (groups + 1) (omega arith) ∙ len_p

  abbrev S : List ℕ
  S = set (set Q (base + POSITIONS + h) (groups + 1)) (base + 2 * POSITIONS + h) required

  -- But for the two numbers of the member all stays.
  set_rest : (k : ℕ) → (k ≡ base + POSITIONS + h → ⊥) → (k ≡ base + 2 * POSITIONS + h → ⊥) → get_or S k 0 ≡ get_or Q k 0
  set_rest k a b =
      get_or-set_other (set Q (base + POSITIONS + h) (groups + 1)) (base + 2 * POSITIONS + h) k required 0 b
      ∙ get_or-set_other Q (base + POSITIONS + h) k (groups + 1) 0 a

  set_slot : (s v : ℕ) → Slot base lasts groups s v → get_or S s 0 ≡ get_or Q s 0
  set_slot s v (inl (l, e)) = set_rest s (λ x. omega arith) (λ x. omega arith)
  set_slot s v (inr (n, a, b, e, i)) = set_rest s (λ x. omega arith) (λ x. omega arith)

  in_here : (n : ℕ) → lo ≤ get_or lasts n 0 → get_or lasts n 0 < hi → here n ≡ true
  in_here n a b = rw (le-leb lo (get_or lasts n 0) a, lt-ltb (get_or lasts n 0) hi b)

  at_place : (v : ℕ) → v ≤ GRPGTCNT → get_or Q (base + v) 0 ≡ get_or P (base + v) 0
  at_place v l = each_other here outer_at mark_outer apart_outers P 1 (groups + 1) (omega arith) (base + v) (λ i f t o e. omega arith)

  at_outer : (n : ℕ) → get_or P (record_from base n + 3) 0 ≡ get_or M (record_from base n + 3) 0
  at_outer n = each_other always place_at mark_place apart_places M lo hi le (record_from base n + 3) (λ i f t o e. omega arith)

  taken_in : (s v : ℕ) → Slot base lasts groups s v → lo ≤ v → v < hi → get_or M s 0 ≡ 0 → get_or Q s 0 ≡ marked T v w h
  taken_in s v (inl (l, e)) a b z =
      rw e (at_place v l ∙ each_put always place_at mark_place apart_places M lo hi le v a b refl (omega arith) (rw e at z))
  taken_in s v (inr (n, f, t, e, i)) a b z =
      rw (e, i) (each_put here outer_at mark_outer apart_outers P 1 (groups + 1) (omega arith) n f (omega arith) (in_here n (omega arith) (omega arith)) (omega (arith, len_p)) (at_outer n ∙ rw e at z))

  other_in : (s v : ℕ) → Slot base lasts groups s v → (lo ≤ v → v < hi → ⊥) → get_or Q s 0 ≡ get_or M s 0
  other_in s v (inl (l, e)) out =
      rw e (at_place v l ∙ each_other always place_at mark_place apart_places M lo hi le (base + v) (λ i f t o d. out (omega arith) (omega arith)))
  other_in s v (inr (n, f, t, e, i)) out =
      rw e (each_other here outer_at mark_outer apart_outers P 1 (groups + 1) (omega arith) (record_from base n + 3) (λ j a b o d.
      let same : n ≡ j = apart_outers n j d in
      let o' : here n ≡ true = rw same o in
      out (omega (arith, i, leb-true lo (get_or lasts n 0) (and_left (leb lo (get_or lasts n 0)) _ o'))) (omega (arith, i, ltb-true (get_or lasts n 0) hi (and_right (leb lo (get_or lasts n 0)) _ o'))))
      ∙ at_outer n)

  pub puts : Put base T lasts groups w h lo hi required M (put_member M base T lasts groups w h lo hi required)
  puts =
      rw member_is
      (record {
        len = length-set (set Q (base + POSITIONS + h) (groups + 1)) (base + 2 * POSITIONS + h) required ∙ length-set Q (base + POSITIONS + h) (groups + 1) ∙ len_q;
        taken = λ s v is a b z. set_slot s v is ∙ taken_in s v is a b z;
        other = λ s v is out. set_slot s v is ∙ other_in s v is out;
        kept = λ s v is some. set_slot s v is ∙ kept_in s some;
        group =
            get_or-set_other (set Q (base + POSITIONS + h) (groups + 1)) (base + 2 * POSITIONS + h) (base + POSITIONS + h) required 0 (λ e. omega arith)
            ∙ get_or-set_same Q (base + POSITIONS + h) (groups + 1) 0 (omega (arith, len_q));
        due = get_or-set_same (set Q (base + POSITIONS + h) (groups + 1)) (base + 2 * POSITIONS + h) required 0 (omega (arith, length-set Q (base + POSITIONS + h) (groups + 1), len_q));
        rest = λ k a b c d.
            set_rest k c d
            ∙ each_other here outer_at mark_outer apart_outers P 1 (groups + 1) (omega arith) k (λ n f t o e. b n f (omega arith) e)
            ∙ each_other always place_at mark_place apart_places M lo hi le k (λ u f t o e. a u (omega arith) e);
      })
    where
      kept_in : (s : ℕ) → 1 ≤ get_or M s 0 → get_or Q s 0 ≡ get_or M s 0
      kept_in s some =
          let p = each_kept always place_at mark_place apart_places M lo hi le s some in
          each_kept here outer_at mark_outer apart_outers P 1 (groups + 1) (omega arith) s (omega (arith, p)) ∙ p
