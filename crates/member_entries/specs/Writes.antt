-- What the numbers are that the functions of the code put, and what a number leaves that is put where none is yet.
use Rattle.std.specs.Prelude.{ℕ, ◌+◌, ◌*◌, ◌≤◌, ◌<◌, ◌≡◌, List, eqb, length, set}
use Rattle.std.proofs.Common.{sym, ◌∙◌, arith, length-set, get_or-set_same, get_or-set_other}
use Rattle.std.proofs.Math.Path.{ap}
use Rattle.std.proofs.Math.Decide.{ℕ_discrete}
use Rattle.std.proofs.Math.ListN.{get_or, get_or-eq_default}
use Rattle.std.proofs.Math.Seq.{set_out}
use borrow.Author.Tests.{eq-eqb, ne_eqb, le-leb, lt-leb, lt-ltb, le-ltb}
use Rattle.layout.specs.Sizes.{ENDING, MODEL, MODEL_ROW, POSITIONS}
use Rattle.basic_laws.specs.Truth.{bool_cases}
use Rattle.model_links.specs.Each.{each_turn, each_end}
use Rattle.member_entries.specs.Entries.{put_free, marked, record_from, put_place, put_places, put_outer, put_outers, put_member, put_record}

-- A number that is put where none is yet.
module _ (M : List ℕ) (i x : ℕ) where
  pub free_set : get_or M i 0 ≡ 0 → set M i x ≡ put_free M i x
  unfolding put_free
  free_set e = rw (eq-eqb _ _ e)

  pub free_stays : (get_or M i 0 ≡ 0 → ⊥) → M ≡ put_free M i x
  unfolding put_free
  free_stays d = rw (ne_eqb _ _ d)

  pub free_past : length M ≤ i → M ≡ put_free M i x
  unfolding put_free
  free_past l = rw (eq-eqb _ _ (get_or-eq_default M 0 l)) (sym (set_out M i x l))

  pub free_length : length (put_free M i x) ≡ length M
  unfolding put_free
  free_length = bool_cases (eqb (get_or M i 0) 0) (λ e. rw e (length-set M i x)) (λ e. rw e)

  pub free_other : (k : ℕ) → (k ≡ i → ⊥) → get_or (put_free M i x) k 0 ≡ get_or M k 0
  unfolding put_free
  free_other k ne = bool_cases (eqb (get_or M i 0) 0) (λ e. rw e (get_or-set_other M i k x 0 ne)) (λ e. rw e)

  pub free_put : i < length M → get_or M i 0 ≡ 0 → get_or (put_free M i x) i 0 ≡ x
  unfolding put_free
  free_put l z = rw (eq-eqb (get_or M i 0) 0 z) (get_or-set_same M i x 0 l)

  pub free_kept : (k : ℕ) → 1 ≤ get_or M k 0 → get_or (put_free M i x) k 0 ≡ get_or M k 0
  unfolding put_free
  free_kept k some = go (ℕ_discrete k i)
    where
      go : Dec (k ≡ i) → get_or (put_free M i x) k 0 ≡ get_or M k 0
      go (yes e) = rw (ne_eqb (get_or M i 0) 0 (λ z. omega (arith, some, ap (λ (j : ℕ). get_or M j 0) e, z)))
      go (no ne) = free_other k ne

-- The mark that says where a member can end, by the number of the table that was read.
module _ (T : List ℕ) (u w h i : ℕ) where
  pub marked_one : get_or T i 0 ≡ 1 → i ≡ u * MODEL_ROW + w → h + ENDING ≡ marked T u w h
  marked_one e is = rw (sym is, eq-eqb _ _ e)

  pub marked_other : (get_or T i 0 ≡ 1 → ⊥) → i ≡ u * MODEL_ROW + w → h ≡ marked T u w h
  marked_other d is = rw (sym is, ne_eqb _ _ d) (omega arith)

  pub marked_past : length T ≡ MODEL → MODEL ≤ i → i ≡ u * MODEL_ROW + w → h ≡ marked T u w h
  marked_past len l is =
      let none : get_or T i 0 ≡ 0 = get_or-eq_default T 0 (omega (arith, len)) in
      marked_other (λ e. omega (arith, none, e)) is

-- The group that ends with `last` is within the member, behind it, or before it.
module _ (M : List ℕ) (base : ℕ) (T : List ℕ) (w h lo hi last g : ℕ) where
  pub outer_within : (S : List ℕ) (x : ℕ) → S ≡ put_free M (record_from base g + 3) x → x ≡ marked T last w h → lo ≤ last → last < hi → S ≡ put_outer M base T w h lo hi last g
  unfolding put_outer
  outer_within S x e m l r = rw (le-leb lo last l, lt-ltb last hi r) (e ∙ ap (put_free M (record_from base g + 3)) m)

  pub outer_right : lo ≤ last → hi ≤ last → M ≡ put_outer M base T w h lo hi last g
  unfolding put_outer
  outer_right l r = rw (le-leb lo last l, le-ltb last hi r)

  pub outer_left : last < lo → M ≡ put_outer M base T w h lo hi last g
  unfolding put_outer
  outer_left l = rw (lt-leb lo last l)

-- A turn of the loop over places, and of the one over groups.
module _ (M S : List ℕ) (base : ℕ) (T : List ℕ) (w h : ℕ) where
  pub places_turn : (u hi x : ℕ) (R : List ℕ) → S ≡ put_free M (base + u) x → x ≡ marked T u w h → u < hi → put_places M base T w h u hi ≡ R → put_places S base T w h (u + 1) hi ≡ R
  unfolding put_places
  places_turn u hi x R e m l inv = each_turn (put_place base T w h) M u hi S R (e ∙ ap (put_free M (base + u)) m) l inv

  pub outers_turn : (lo hi : ℕ) (lasts : List ℕ) (last g end : ℕ) (R : List ℕ) → S ≡ put_outer M base T w h lo hi last g → last ≡ get_or lasts g 0 → g < end → put_outers M base T w h lo hi lasts g end ≡ R → put_outers S base T w h lo hi lasts (g + 1) end ≡ R
  unfolding put_outers
  outers_turn lo hi lasts last g end R e m l inv =
      each_turn (λ N k. put_outer N base T w h lo hi (get_or lasts k 0) k) M g end S R (e ∙ ap (λ (k : ℕ). put_outer M base T w h lo hi k g) m) l inv

-- The end of each loop.
module _ (M : List ℕ) (base : ℕ) (T : List ℕ) (w h : ℕ) where
  pub places_end : (u hi : ℕ) (R : List ℕ) → hi ≤ u → put_places M base T w h u hi ≡ R → M ≡ R
  unfolding put_places
  places_end u hi R l inv = each_end (put_place base T w h) M u hi R l inv

  pub outers_end : (lo hi : ℕ) (lasts : List ℕ) (g end : ℕ) (R : List ℕ) → end ≤ g → put_outers M base T w h lo hi lasts g end ≡ R → M ≡ R
  unfolding put_outers
  outers_end lo hi lasts g end R l inv = each_end (λ N k. put_outer N base T w h lo hi (get_or lasts k 0) k) M g end R l inv

-- One member is put, and one group.
module _ (M : List ℕ) (base : ℕ) (T lasts : List ℕ) (groups w h lo hi required : ℕ) where
  pub member_put :
      (S₁ S₂ S₃ S₄ : List ℕ) (end : ℕ) → S₁ ≡ put_places M base T w h lo hi → S₂ ≡ put_outers S₁ base T w h lo hi lasts 1 end → end ≡ groups + 1 →
      S₃ ≡ set S₂ (base + POSITIONS + h) (groups + 1) → S₄ ≡ set S₃ (base + 2 * POSITIONS + h) required → S₄ ≡ put_member M base T lasts groups w h lo hi required
  unfolding put_member
  member_put S₁ S₂ S₃ S₄ end e₁ e₂ all e₃ e₄ = rw (e₄, e₃, e₂, e₁, all)

pub record_put :
    (M : List ℕ) (base groups own needed k : ℕ) (S₁ S₂ S₃ : List ℕ) → S₁ ≡ set M (record_from base (groups + 1)) own → S₂ ≡ set S₁ (record_from base (groups + 1) + 1) needed →
    S₃ ≡ set S₂ (record_from base (groups + 1) + 2) k → S₃ ≡ put_record M base groups own needed k
record_put M base groups own needed k S₁ S₂ S₃ e₁ e₂ e₃ = rw (e₃, e₂, e₁)
