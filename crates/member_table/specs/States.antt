-- Numbers of the code run one after the other, and what the state keeps of what was there before.
use Prim.Native.Nat.{ℕ, zero, suc, ◌+◌, ◌-◌, ◌≤◌, ◌<◌}
use Rattle.std.specs.Prelude.{◌≡◌, Bool, true, false, ◌||◌, cond, ◌⊎◌, length, get_or}
use Rattle.std.proofs.Math.Path.{refl, sym}
use Rattle.std.proofs.Common.{◌∙◌, ap, inl, inr, arith, length-set, get_or-set_other, lt-ltb, le-leb, le-ltb, ne_eqb}
use mathlib.Core.List.{List, [], ◌∷◌, ◌++◌}
use Rattle.rules.specs.Bytes.{GRPGTCNT}
use Rattle.model_code.specs.Codes.{ALSO_CODE, ALT_CODE, AND_CODE, OPT_CODE, PLUS_CODE, SEQ_CODE}
use Rattle.layout.specs.Sizes.{MEMBER, MODEL_ROWS, CODE, AND_GROUPS, LASTS, POSITIONS, REACHES}
use Rattle.basic_laws.specs.Truth.{bool_cases}
use Rattle.and_laws.specs.Base.{Apart, apart_no}
use Rattle.and_laws.specs.Decide.{or_only}
use Rattle.and_laws.specs.Ranked.{Level}
use Rattle.model_code.specs.Spelled.{code_in}
use Rattle.member_laws.specs.Members.{outer_at}
use Rattle.member_entries.specs.Slots.{Slot}
use Rattle.member_table.specs.declared.Piece.{Piece}
use Rattle.member_table.specs.Filling.{State, piece_at, none_piece, place_piece, opt_piece, joined_piece, stacked, close_group, step_fill, start_fill, run_fill}
use Rattle.member_table.specs.Chains.{base_of, Spells, spells_map, Keeps, spells_keep}
use Rattle.member_table.specs.Order.{InOrder}

-- Numbers are read one after the other.

unfoldable pub run_ops : (base : ℕ) (T : List ℕ) → List ℕ → State → State
run_ops base T [] s = s
run_ops base T (o ∷ os) s = run_ops base T os (step_fill base T s o)

module _ (base : ℕ) (T : List ℕ) where
  pub run_append : (a b : List ℕ) (s : State) → run_ops base T (a ++ b) s ≡ run_ops base T b (run_ops base T a s)
  unfolding run_ops
  run_append [] b s = refl
  run_append (o ∷ a) b s = run_append a b (step_fill base T s o)

  pub run_one : (o : ℕ) (s : State) → run_ops base T (o ∷ []) s ≡ step_fill base T s o
  unfolding run_ops
  run_one o s = refl

  -- The code in the table is run.
  pub run_in : (M : List ℕ) (n : ℕ) → n ≤ CODE → run_fill M base T n ≡ run_ops base T (code_in T n) (start_fill M)
  unfolding run_fill run_ops
  run_in M zero l = refl
  run_in M (suc n) l =
      rw (lt-ltb n CODE (omega arith))
      (ap (λ (s : State). step_fill base T s (get_or T (MODEL_ROWS + n) 0)) (run_in M n (omega arith)) ∙ sym (run_append (code_in T n) (get_or T (MODEL_ROWS + n) 0 ∷ []) (start_fill M)))

  -- One number is read.

  pub step_place : (s : State) (p : ℕ) → p < POSITIONS → s.top < POSITIONS → step_fill base T s p ≡ stacked s s.top (place_piece p)
  step_place s p small room = rw (lt-ltb p POSITIONS small, lt-ltb s.top POSITIONS room)

  pub step_opt : (s : State) → 1 ≤ s.top → step_fill base T s OPT_CODE ≡ stacked s (s.top - 1) (opt_piece (piece_at s.stack (s.top - 1)))
  step_opt s l = rw (le-leb 1 s.top l)

  pub step_seq : (s : State) → 2 ≤ s.top → step_fill base T s SEQ_CODE ≡ stacked s (s.top - 2) (joined_piece SEQ_CODE (piece_at s.stack (s.top - 2)) (piece_at s.stack (s.top - 1)))
  step_seq s l = rw (le-leb 2 s.top l)

  pub step_alt : (s : State) → 2 ≤ s.top → step_fill base T s ALT_CODE ≡ stacked s (s.top - 2) (joined_piece ALT_CODE (piece_at s.stack (s.top - 2)) (piece_at s.stack (s.top - 1)))
  step_alt s l = rw (le-leb 2 s.top l)

  pub step_plus : (s : State) → step_fill base T s PLUS_CODE ≡ s
  step_plus s = refl

  pub step_also : (s : State) → step_fill base T s ALSO_CODE ≡ s
  step_also s = refl

  pub step_close : (s : State) (k : ℕ) → 2 ≤ k → k ≤ s.top → s.groups < AND_GROUPS → s.count + k < POSITIONS → step_fill base T s (AND_CODE + k) ≡ close_group base T k s
  step_close s k a b c d =
      let e : AND_CODE + k - AND_CODE ≡ k = omega arith in
      rw (le-ltb (AND_CODE + k) SEQ_CODE (omega arith), ne_eqb (AND_CODE + k) OPT_CODE (λ x. omega arith), le-ltb (AND_CODE + k) PLUS_CODE (omega arith), lt-ltb AND_CODE (AND_CODE + k) (omega arith), e, le-leb 2 k a, le-leb k s.top b, lt-ltb s.groups AND_GROUPS c, lt-ltb (s.count + k) POSITIONS d)

-- What lies below on the stack is kept.

-- From the state s to t k pieces are put upon the stack.
pub record Upon (k : ℕ) (s t : State) : Type 0 where
  pub top : t.top ≡ s.top + k
  pub len : length t.stack ≡ length s.stack
  pub below : (j : ℕ) → j < s.top → piece_at t.stack j ≡ piece_at s.stack j

pub upon_both : (a b : ℕ) (s t r : State) → Upon a s t → Upon b t r → Upon (a + b) s r
upon_both a b s t r p q =
    record {
      top = omega (arith, p.top, q.top);
      len = q.len ∙ p.len;
      below = λ j l. q.below j (omega (arith, p.top)) ∙ p.below j l;
    }

-- One piece comes in place of those that were put.
pub upon_one : (k : ℕ) (s t : State) → Upon k s t → (j : ℕ) (a : Piece) → j ≡ s.top → Upon 1 s (stacked t j a)
upon_one k s t p j a e =
    record {
      top = omega arith;
      len = length-set t.stack j a ∙ p.len;
      below = λ i l. get_or-set_other t.stack j i a none_piece (λ x. omega arith) ∙ p.below i l;
    }

-- From the state s to t so many groups and members are put; all places that get a member are of D.
pub record Common (e : ℕ) (D : ℕ → Bool) (cnt tot : ℕ) (s t : State) : Type 0 where
  pub groups : t.groups ≡ s.groups + cnt
  pub count : t.count ≡ s.count + tot
  pub lasts_len : length t.lasts ≡ length s.lasts
  pub agree : (n : ℕ) → n ≤ s.groups → get_or t.lasts n 0 ≡ get_or s.lasts n 0
  pub len : length t.members ≡ length s.members
  pub keeps : Keeps e s.lasts s.groups s.count D s.members t.members
  pub later : (n : ℕ) → t.groups < n → outer_at t.members e n ≡ outer_at s.members e n
  pub outside : (k : ℕ) → (k < base_of e) ⊎ (base_of e + MEMBER ≤ k) → get_or t.members k 0 ≡ get_or s.members k 0
  pub order : InOrder e s.members s.groups s.count → InOrder e t.members t.groups t.count

-- What a group asks for: no place of D has a member, no later group has one.
pub record Ready (e : ℕ) (D : ℕ → Bool) (s : State) : Type 0 where
  pub stack : length s.stack ≡ POSITIONS
  pub lasts : length s.lasts ≡ LASTS
  pub room : base_of e + REACHES ≤ length s.members
  pub places : (u : ℕ) → D u ≡ true → get_or s.members (base_of e + u) 0 ≡ 0
  pub outers : (n : ℕ) → s.groups < n → n ≤ AND_GROUPS → outer_at s.members e n ≡ 0

slot_on : (e : ℕ) (D : ℕ → Bool) (cnt tot : ℕ) (s t : State) → Common e D cnt tot s t → (p v : ℕ) → Slot (base_of e) s.lasts s.groups p v → Slot (base_of e) t.lasts t.groups p v
slot_on e D cnt tot s t c p v (inl x) = inl x
slot_on e D cnt tot s t c p v (inr (n, a, b, x, y)) = inr (n, a, omega (arith, c.groups), x, y ∙ sym (c.agree n b))

keeps_none : (e : ℕ) (D : ℕ → Bool) (lasts : List ℕ) (b c : ℕ) (M : List ℕ) → Keeps e lasts b c D M M
keeps_none e D lasts b c M =
    record {
      other = λ s v is i. refl;
      kept = λ s v is i. refl;
      group = λ n l. refl;
      due = λ n l. refl;
      first = λ n l. refl;
      needed = λ n l. refl;
      size = λ n l. refl;
    }

-- Nothing but the stack changes.
pub common_none : (e : ℕ) (D : ℕ → Bool) (s : State) (k : ℕ) (a : Piece) → Common e D 0 0 s (stacked s k a)
common_none e D s k a =
    record {
      groups = omega arith;
      count = omega arith;
      lasts_len = refl;
      agree = λ n h. refl;
      len = refl;
      keeps = keeps_none e D s.lasts s.groups s.count s.members;
      later = λ n h. refl;
      outside = λ j h. refl;
      order = λ so. so;
    }

pub common_stack : (e : ℕ) (D : ℕ → Bool) (cnt tot : ℕ) (s t : State) → Common e D cnt tot s t → (k : ℕ) (a : Piece) → Common e D cnt tot s (stacked t k a)
common_stack e D cnt tot s t c k a =
    record {
      groups = c.groups;
      count = c.count;
      lasts_len = c.lasts_len;
      agree = c.agree;
      len = c.len;
      keeps = c.keeps;
      later = c.later;
      outside = c.outside;
      order = c.order;
    }

-- What is put one after the other is put in all.
module _ (e : ℕ) (D₁ D₂ D : ℕ → Bool) (n₁ m₁ n₂ m₂ : ℕ) (s t r : State) (p : Common e D₁ n₁ m₁ s t) (q : Common e D₂ n₂ m₂ t r) (left : (v : ℕ) → D v ≡ false → D₁ v ≡ false) (right : (v : ℕ) → D v ≡ false → D₂ v ≡ false) where
  keeps_both : Keeps e s.lasts s.groups s.count D s.members r.members
  keeps_both =
      let P = p.keeps in
      let Q = q.keeps in
      record {
        other = λ k v is i. Q.other k v (slot_on e D₁ n₁ m₁ s t p k v is) (right v i) ∙ P.other k v is (left v i);
        kept = λ k v is i.
            let x = P.kept k v is i in
            Q.kept k v (slot_on e D₁ n₁ m₁ s t p k v is) (omega (arith, x)) ∙ x;
        group = λ n l. Q.group n (omega (arith, p.count)) ∙ P.group n l;
        due = λ n l. Q.due n (omega (arith, p.count)) ∙ P.due n l;
        first = λ n l. Q.first n (omega (arith, p.groups)) ∙ P.first n l;
        needed = λ n l. Q.needed n (omega (arith, p.groups)) ∙ P.needed n l;
        size = λ n l. Q.size n (omega (arith, p.groups)) ∙ P.size n l;
      }

  pub common_both : Common e D (n₁ + n₂) (m₁ + m₂) s r
  common_both =
      record {
        groups = omega (arith, p.groups, q.groups);
        count = omega (arith, p.count, q.count);
        lasts_len = q.lasts_len ∙ p.lasts_len;
        agree = λ n l. q.agree n (omega (arith, p.groups)) ∙ p.agree n l;
        len = q.len ∙ p.len;
        keeps = keeps_both;
        later = λ n l. q.later n l ∙ p.later n (omega (arith, q.groups));
        outside = λ k o. q.outside k o ∙ p.outside k o;
        order = λ so. q.order (p.order so);
      }

-- What is left free is free for what comes after.
pub ready_after : (e : ℕ) (D D₁ D₂ : ℕ → Bool) (cnt tot k : ℕ) (s t : State) → Ready e D s → Upon k s t → Common e D₁ cnt tot s t
    → ((u : ℕ) → D₂ u ≡ true → (D u ≡ true) × (D₁ u ≡ false) × (u ≤ GRPGTCNT)) → Ready e D₂ t
ready_after e D D₁ D₂ cnt tot k s t R p c f =
    record {
      stack = p.len ∙ R.stack;
      lasts = c.lasts_len ∙ R.lasts;
      room = omega (arith, R.room, c.len);
      places = λ u i. let (x, y, z) = f u i in c.keeps.other (base_of e + u) u (inl (z, refl)) y ∙ R.places u x;
      outers = λ n l h. c.later n l ∙ R.outers n (omega (arith, c.groups)) h;
    }

pub ready_part : (e : ℕ) (D D₁ : ℕ → Bool) (s : State) → Ready e D s → ((u : ℕ) → D₁ u ≡ true → D u ≡ true) → Ready e D₁ s
ready_part e D D₁ s R f = record { stack = R.stack; lasts = R.lasts; room = R.room; places = λ u i. R.places u (f u i); outers = R.outers }

-- The chains of the places of two parts, one after the other.
pub chains_both :
    (e : ℕ) (D₁ D₂ : ℕ → Bool) → Apart D₁ D₂
    → ((u : ℕ) → D₁ u ≡ true → u ≤ GRPGTCNT)
    → (cnt tot : ℕ) (t r : State) → Common e D₂ cnt tot t r
    → (A₁ A₂ A : ℕ → Bool → ℕ → Type 0)
    → ((u : ℕ) (ends : Bool) (v : ℕ) → A₁ u ends v → D₁ v ≡ true)
    → ((u : ℕ) → D₁ u ≡ true → (ends : Bool) (v : ℕ) → A₁ u ends v → A u ends v)
    → ((u : ℕ) → D₂ u ≡ true → (ends : Bool) (v : ℕ) → A₂ u ends v → A u ends v)
    → (L₁ L₂ : ℕ → List Level)
    → ((u : ℕ) → D₁ u ≡ true → Spells e t.members t.lasts t.groups t.count (A₁ u) u true (base_of e + u) u (L₁ u))
    → ((u : ℕ) → D₂ u ≡ true → Spells e r.members r.lasts r.groups r.count (A₂ u) u true (base_of e + u) u (L₂ u))
    → (u : ℕ) → D₁ u || D₂ u ≡ true → Spells e r.members r.lasts r.groups r.count (A u) u true (base_of e + u) u (cond (D₂ u) (L₂ u) (L₁ u))
chains_both e D₁ D₂ apart le cnt tot t r c A₁ A₂ A in_first into₁ into₂ L₁ L₂ f₁ f₂ u i =
    bool_cases
    (D₂ u)
    (λ y. rw y (spells_map e r.members r.lasts r.groups r.count (A₂ u) (A u) (into₂ u y) u (L₂ u) true (base_of e + u) u (f₂ u y)))
    (λ y.
    let x = or_only (D₁ u) (D₂ u) y i in
    rw y
    (spells_keep e t.lasts t.groups t.count D₂ t.members r.members c.keeps r.lasts r.groups r.count (omega (arith, c.groups)) (omega (arith, c.count)) c.agree u (A₁ u) (A u)
    (λ ends v a. apart_no apart (in_first u ends v a))
    (into₁ u x)
    (L₁ u)
    true
    (base_of e + u)
    u
    (inl (le u x, refl))
    (f₁ u x)))
