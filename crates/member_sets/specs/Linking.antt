-- The sets of members, from the outermost group inwards: those of each are those of the group around it with what it adds.
use Rattle.std.specs.Prelude.{ℕ, ◌+◌, ◌*◌, ◌%◌, ◌≤◌, ◌<◌, ◌≡◌, refl, Bool, true, false, ◌&&◌, ◌||◌, cond, ◌⊎◌, List, eqb, ltb, leb, length, get_or, set}
use Rattle.std.proofs.Common.{sym, ◌∙◌, ap, subst, inl, inr, arith, length-set, get_or-set_same, get_or-set_other, lt-ltb, le-ltb, eq-eqb, ne_eqb}
use Rattle.std.proofs.Math.Bool.{and-false, or-false, or_comm}
use Rattle.std.proofs.Math.Decide.{ℕ_discrete, dec_lt}
use Rattle.rules.specs.Bytes.{element_limit}
use Rattle.layout.specs.Sizes.{POSITIONS, AND_GROUPS, GROUP, REACHES, NEEDED, MEMBER_BITS, SETS, MEMBER, MEMBERS, ENDING}
use Rattle.basic_laws.specs.Truth.{or_right}
use Rattle.member_laws.specs.Members.{group_at, record_at, first_at, needed_at, size_at, outer_at, reach_at, holds_at, among_at, is_own, Outermost, Within, Around, AllSets}
use Rattle.member_bits.specs.declared.Bits.{Bits}
use Rattle.member_bits.specs.Having.{Has}
use Rattle.member_sets.specs.declared.Sets.{Sets}
use Rattle.member_sets.specs.Storing.{PutBits, bit_same}
use Rattle.member_bits.specs.Operations.{has_same}

-- These are the numbers that are read of a member and of a group.

-- The member h is numbered before those of its group that can be nothing.
abbrev pub is_due : (M : List ℕ) (e h : ℕ) → Bool
is_due M e h = ltb h (first_at M e (group_at M e h) + needed_at M e (group_at M e h))

module _ (M : List ℕ) (e n : ℕ) where
  -- The innermost member that holds the group n is one of a group around it, and W holds of the member, of that group and of whether the member can end here.
  abbrev pub Inner : (ℕ → ℕ → Bool → Type 0) → Type 0
  Inner W =
      1 ≤ outer_at M e n % ENDING → outer_at M e n % ENDING < POSITIONS → n < group_at M e (outer_at M e n % ENDING) → group_at M e (outer_at M e n % ENDING) ≤ AND_GROUPS →
      W (outer_at M e n % ENDING) (group_at M e (outer_at M e n % ENDING)) (ltb ENDING (outer_at M e n))

  abbrev Read : (ℕ → ℕ → Bool → Type 0) → (outer f : ℕ) → Type 0
  Read W outer f = 1 ≤ outer % ENDING → outer % ENDING < POSITIONS → n < f → f ≤ AND_GROUPS → W (outer % ENDING) f (ltb ENDING outer)

  inner_read : (W : ℕ → ℕ → Bool → Type 0) → Inner W → (outer f : ℕ) → outer ≡ outer_at M e n → f ≡ group_at M e (outer % ENDING) → Read W outer f
  inner_read W h outer f o g =
      subst (Read W outer) (sym g) (subst (λ (x : ℕ). Read W x (group_at M e (x % ENDING))) (sym o) h)

  read_inner : (W : ℕ → ℕ → Bool → Type 0) (outer f : ℕ) → outer ≡ outer_at M e n → f ≡ group_at M e (outer % ENDING) → Read W outer f → Inner W
  read_inner W outer f o g h = subst (λ (x : ℕ). Read W x (group_at M e (x % ENDING))) o (subst (Read W outer) g h)

-- What is to be put of the group g.

pub record Alone (M : List ℕ) (e g : ℕ) (a : Sets) : Type 0 where
  pub holding : Has a.holding (λ (h : ℕ). false)
  pub among : Has a.among (is_own M e g)
  pub reach : a.reach ≡ g

pub record Joining (M : List ℕ) (e g : ℕ) (a : Sets) (outer f : ℕ) (ends : Bool) : Type 0 where
  pub holding : Has a.holding (λ (h : ℕ). holds_at M e f h || eqb h outer)
  pub among : Has a.among (λ (h : ℕ). is_own M e g h || among_at M e f h)
  pub reach : a.reach ≡ cond ends (reach_at M e f) g

pub record Found (M : List ℕ) (e g : ℕ) (a : Sets) : Type 0 where
  pub small : a.reach ≤ 255
  pub none : outer_at M e g % ENDING ≡ 0 → Alone M e g a
  pub some : Inner M e g (Joining M e g a)

module _
    (M : List ℕ) (e g first size outer : ℕ) (own : Bits) (few : g ≤ AND_GROUPS)
    (first_is : first ≡ get_or M (record_at M e g + 0) 0) (size_is : size ≡ get_or M (record_at M e g + 2) 0) (outer_is : outer ≡ get_or M (record_at M e g + 3) 0)
    (has_own : Has own (λ (n : ℕ). leb first n && ltb n (first + size))) (f : ℕ) (f_is : f ≡ group_at M e (outer % ENDING)) where
  own_read : Has own (is_own M e g)
  own_read =
      let z : record_at M e g + 0 ≡ record_at M e g = omega arith in
      subst (λ (x : ℕ). Has own (λ (n : ℕ). leb x n && ltb n (x + size_at M e g))) (first_is ∙ ap (λ (i : ℕ). get_or M i 0) z)
      (subst (λ (x : ℕ). Has own (λ (n : ℕ). leb first n && ltb n (first + x))) size_is has_own)

  pub found_alone :
      (1 ≤ outer % ENDING → outer % ENDING < POSITIONS → g < f → f ≤ AND_GROUPS → ⊥) → (holding : Bits) → Has holding (λ (n : ℕ). false)
      → Found M e g (record { holding = holding; among = own; reach = g })
  found_alone out holding has_none =
      record {
        small = omega arith;
        none = λ z. record { holding = has_none; among = own_read; reach = refl };
        some = read_inner M e g (Joining M e g (record { holding = holding; among = own; reach = g })) outer f outer_is f_is (λ a b c d. absurd (out a b c d));
      }

  pub found_within :
      1 ≤ outer % ENDING → (holding among : Bits) (reach : ℕ)
      → Has holding (λ (n : ℕ). holds_at M e f n || eqb n (outer % ENDING))
      → ((k : ℕ → Bool) → Has own k → Has among (λ (n : ℕ). k n || among_at M e f n))
      → (ENDING < outer → reach ≡ reach_at M e f) × (outer ≤ ENDING → reach ≡ g) × (reach ≤ 255)
      → Found M e g (record { holding = holding; among = among; reach = reach })
  found_within held holding among reach has_holding has_among (far, near, small) =
      let a : Sets = record { holding = holding; among = among; reach = reach } in
      record {
        small = small;
        none = λ z. absurd (omega (arith, outer_is));
        some = read_inner M e g (Joining M e g a) outer f outer_is f_is (λ p q r s. record { holding = has_holding; among = has_among (is_own M e g) own_read; reach = go (dec_lt ENDING outer) });
      }
    where
      go : Dec (ENDING < outer) → reach ≡ cond (ltb ENDING outer) (reach_at M e f) g
      go (yes l) = rw (lt-ltb ENDING outer l) (far l)
      go (no l) = rw (le-ltb ENDING outer (omega arith)) (near (omega arith))

-- The members that cannot be nothing are gone through one after the other.

pub due_by : (M : List ℕ) (e h g a b : ℕ) → g ≡ group_at M e h → a ≡ get_or M (record_at M e g + 0) 0 → b ≡ get_or M (record_at M e g + 1) 0 → ltb h (a + b) ≡ is_due M e h
due_by M e h g a b group first needed =
    let z : record_at M e g + 0 ≡ record_at M e g = omega arith in
    rw (first, needed, z) (ap (λ (x : ℕ). ltb h (first_at M e x + needed_at M e x)) group)

module _ (P : ℕ → Bool) where
  -- These are those before h.
  abbrev pub Before : (h n : ℕ) → Bool
  Before h n = ltb n h && P n

  before_on : (h n : ℕ) → (n ≡ h → ⊥) → Before h n ≡ Before (h + 1) n
  before_on h n ne = go (dec_lt n h)
    where
      go : Dec (n < h) → Before h n ≡ Before (h + 1) n
      go (yes l) = rw (lt-ltb n h l, lt-ltb n (h + 1) (omega arith))
      go (no l) = rw (le-ltb n h (omega arith), le-ltb n (h + 1) (omega arith))

  pub before_none : (b : Bits) → Has b (λ (n : ℕ). false) → Has b (Before 1)
  before_none b = has_same (λ n x y. rw (le-ltb n 1 x))

  pub before_pass : (b : Bits) (h : ℕ) → P h ≡ false → Has b (Before h) → Has b (Before (h + 1))
  before_pass b h no_due = has_same (λ n x y. go n (ℕ_discrete n h))
    where
      go : (n : ℕ) → Dec (n ≡ h) → Before h n ≡ Before (h + 1) n
      go n (yes z) = rw (z, no_due, and-false (ltb h h), and-false (ltb h (h + 1)))
      go n (no z) = before_on h n z

  pub before_with : (b c : Bits) (h : ℕ) → P h ≡ true → ((f : ℕ → Bool) → Has b f → Has c (λ (n : ℕ). f n || eqb n h)) → Has b (Before h) → Has c (Before (h + 1))
  before_with b c h is_due_lem adds has = has_same (λ n x y. go n (ℕ_discrete n h)) (adds (Before h) has)
    where
      go : (n : ℕ) → Dec (n ≡ h) → Before h n || eqb n h ≡ Before (h + 1) n
      go n (yes z) = rw (z, is_due_lem, lt-ltb h (h + 1) (omega arith), or_right (ltb h h && true) (eq-eqb h h refl))
      go n (no z) = rw (ne_eqb n h z, or-false (Before h n)) (before_on h n z)

  pub before_all : (b : Bits) (h : ℕ) → POSITIONS ≤ h → Has b (Before h) → Has b P
  before_all b h l = has_same (λ n x y. rw (lt-ltb n h (omega arith)))

-- Sets stay where the numbers that are read for them stay.

-- The numbers of the element e before its sets.
abbrev pub Low : (M S : List ℕ) (e : ℕ) → Type 0
Low M S e = (k : ℕ) → k < REACHES → get_or S (e * MEMBER + k) 0 ≡ get_or M (e * MEMBER + k) 0

-- The sets of the group n.
pub record Same (M S : List ℕ) (e n : ℕ) : Type 0 where
  pub holds : (h : ℕ) → 1 ≤ h → h < POSITIONS → holds_at S e n h ≡ holds_at M e n h
  pub among : (h : ℕ) → 1 ≤ h → h < POSITIONS → among_at S e n h ≡ among_at M e n h
  pub reach : reach_at S e n ≡ reach_at M e n

abbrev pub sets_from : (e n : ℕ) → ℕ
sets_from e n = e * MEMBER + SETS + n * (2 * MEMBER_BITS)

pub same_sets : (M S : List ℕ) (e n : ℕ) → ((k : ℕ) → sets_from e n ≤ k → k < sets_from e n + 2 * MEMBER_BITS → get_or S k 0 ≡ get_or M k 0) → reach_at S e n ≡ reach_at M e n → Same M S e n
same_sets M S e n same reach =
    record {
      holds = bit_same M S (sets_from e n) (λ k a b. same k a (omega arith));
      among = bit_same M S (sets_from e n + MEMBER_BITS) (λ k a b. same k (omega arith) (omega arith));
      reach = reach;
    }

module _ (M S : List ℕ) (e : ℕ) (low : Low M S e) where
  pub low_at : (i k : ℕ) → i ≡ e * MEMBER + k → k < REACHES → get_or S i 0 ≡ get_or M i 0
  low_at i k q l = rw q (low k l)

  pub group_same : (h : ℕ) → h < POSITIONS → group_at S e h ≡ group_at M e h
  group_same h l = low_at _ (POSITIONS + h) (omega arith) (omega arith)

  pub record_same : (n r : ℕ) → n ≤ AND_GROUPS → r < 4 → get_or S (record_at S e n + r) 0 ≡ get_or M (record_at M e n + r) 0
  record_same n r l s = low_at _ (3 * POSITIONS + n * GROUP + r) (omega arith) (omega arith)

  pub first_same : (n : ℕ) → n ≤ AND_GROUPS → first_at S e n ≡ first_at M e n
  first_same n l = low_at _ (3 * POSITIONS + n * GROUP) (omega arith) (omega arith)

  pub due_same : (h : ℕ) → h < POSITIONS → group_at S e h ≤ AND_GROUPS → is_due S e h ≡ is_due M e h
  due_same h l few =
      let g = group_same h l in
      let to : group_at M e h ≤ AND_GROUPS = omega arith in
      rw (g, first_same (group_at M e h) to, record_same (group_at M e h) 1 to (omega arith))

  module _ (n : ℕ) (few : n ≤ AND_GROUPS) where
    own_same : (h : ℕ) → is_own S e n h ≡ is_own M e n h
    own_same h = rw (first_same n few, record_same n 2 few (omega arith))

    outer_same : outer_at S e n ≡ outer_at M e n
    outer_same = record_same n 3 few (omega arith)

    -- The table S has around the group n what M says of it.
    around_by : (W : ℕ → ℕ → Bool → Type 0) → Inner M e n W → (outer_at M e n % ENDING ≡ 0 → Outermost S e n)
        → ((outer f : ℕ) (ends : Bool) → n < f → f ≤ AND_GROUPS → W outer f ends → Within S e n outer f ends) → Around S e n
    around_by W inner none some =
        record {
          none = λ z. none (subst (λ (x : ℕ). x % ENDING ≡ 0) outer_same z);
          some = λ a b c d.
              some _ _ _ c d
              (inner_read M e n W inner (outer_at S e n) (group_at S e (outer_at S e n % ENDING)) outer_same (group_same (outer_at S e n % ENDING) b) a b c d);
        }

    pub around_same : ((m : ℕ) → n ≤ m → m ≤ AND_GROUPS → Same M S e m) → Around M e n → Around S e n
    around_same same old =
        let here = same n (omega arith) few in
        around_by (Within M e n) old.some
        (λ z.
        let w = old.none z in
        record {
          holds = λ h a b. here.holds h a b ∙ w.holds h a b;
          among = λ h a b. here.among h a b ∙ w.among h a b ∙ sym (own_same h);
          reach = here.reach ∙ w.reach;
        })
        (λ outer f ends c d w.
        let there = same f (omega arith) d in
        record {
          holds = λ h a b. here.holds h a b ∙ w.holds h a b ∙ ap (λ (x : Bool). eqb h outer || x) (sym (there.holds h a b));
          among = λ h a b. here.among h a b ∙ w.among h a b ∙ rw (own_same h, there.among h a b);
          reach = here.reach ∙ w.reach ∙ ap (λ (x : ℕ). cond ends x n) (sym there.reach);
        })

-- One group is put.

-- The sets of the group g are put into M, and nothing else has changed.
pub record PutGroup (M : List ℕ) (e g : ℕ) (S : List ℕ) : Type 0 where
  pub len : length S ≡ length M
  pub others : (k : ℕ) → (k < sets_from e g) ⊎ (sets_from e g + 2 * MEMBER_BITS ≤ k) → (k ≡ e * MEMBER + REACHES + g → ⊥) → get_or S k 0 ≡ get_or M k 0
  pub around : Around S e g

module _
    (M : List ℕ) (e g : ℕ) (S : List ℕ) (few : g ≤ AND_GROUPS)
    (others : (k : ℕ) → (k < sets_from e g) ⊎ (sets_from e g + 2 * MEMBER_BITS ≤ k) → (k ≡ e * MEMBER + REACHES + g → ⊥) → get_or S k 0 ≡ get_or M k 0) where
  put_low : Low M S e
  put_low k l = others (e * MEMBER + k) (inl (omega arith)) (λ z. omega arith)

  -- The sets of another group stay.
  put_same : (m : ℕ) → m ≤ AND_GROUPS → (m ≡ g → ⊥) → Same M S e m
  put_same m l ne = same_sets M S e m (λ k a b. others k (away k a b (dec_lt m g)) (λ z. omega arith)) (others (e * MEMBER + REACHES + m) (inl (omega arith)) (λ z. ne (omega arith)))
    where
      away : (k : ℕ) → sets_from e m ≤ k → k < sets_from e m + 2 * MEMBER_BITS → Dec (m < g) → (k < sets_from e g) ⊎ (sets_from e g + 2 * MEMBER_BITS ≤ k)
      away k a b (yes x) = inl (omega arith)
      away k a b (no x) = inr (omega arith)

module _
    (M : List ℕ) (e g : ℕ) (a : Sets) (near : e ≤ element_limit) (few : g ≤ AND_GROUPS) (long : MEMBERS ≤ length M) (found : Found M e g a)
    (A B : List ℕ) (first : PutBits M (sets_from e g) a.holding A) (second : PutBits A (sets_from e g + MEMBER_BITS) a.among B) where
  abbrev at : ℕ
  at = e * MEMBER + REACHES + g

  abbrev S : List ℕ
  S = set B at a.reach

  rest : (k : ℕ) → (k < sets_from e g) ⊎ (sets_from e g + 2 * MEMBER_BITS ≤ k) → (k ≡ at → ⊥) → get_or S k 0 ≡ get_or M k 0
  rest k (inl l) ne = get_or-set_other B at k a.reach 0 ne ∙ second.others k (inl (omega arith)) ∙ first.others k (inl l)
  rest k (inr l) ne = get_or-set_other B at k a.reach 0 ne ∙ second.others k (inr (omega arith)) ∙ first.others k (inr (omega arith))

  put_holds : (f : ℕ → Bool) → Has a.holding f → (h : ℕ) → 1 ≤ h → h < POSITIONS → holds_at S e g h ≡ f h
  put_holds f has h i j =
      bit_same A S (sets_from e g) (λ k x y. get_or-set_other B at k a.reach 0 (λ z. omega arith) ∙ second.others k (inl (omega arith))) h i j
      ∙ first.bits f has h i j

  put_among : (f : ℕ → Bool) → Has a.among f → (h : ℕ) → 1 ≤ h → h < POSITIONS → among_at S e g h ≡ f h
  put_among f has h i j = bit_same B S (sets_from e g + MEMBER_BITS) (λ k x y. get_or-set_other B at k a.reach 0 (λ z. omega arith)) h i j ∙ second.bits f has h i j

  put_reach : reach_at S e g ≡ a.reach
  put_reach = get_or-set_same B at a.reach 0 (omega (arith, second.len, first.len))

  pub group_put : (T : List ℕ) → T ≡ S → PutGroup M e g T
  group_put T is =
      let low = put_low M e g S few rest in
      subst (PutGroup M e g) (sym is)
      (record {
        len = length-set B at a.reach ∙ second.len ∙ first.len;
        others = rest;
        around =
            around_by M S e low g few (Joining M e g a) found.some
            (λ z.
            let w = found.none z in
            record {
              holds = put_holds (λ (h : ℕ). false) w.holding;
              among = λ h i j. put_among (is_own M e g) w.among h i j ∙ sym (own_same M S e low g few h);
              reach = put_reach ∙ w.reach;
            })
            (λ outer f ends c d w.
            let there = put_same M e g S few rest f d (λ z. omega arith) in
            record {
              holds = λ h i j. put_holds (λ (h : ℕ). holds_at M e f h || eqb h outer) w.holding h i j ∙ or_comm (holds_at M e f h) (eqb h outer) ∙ ap (λ (x : Bool). eqb h outer || x) (sym (there.holds h i j));
              among = λ h i j. put_among (λ (h : ℕ). is_own M e g h || among_at M e f h) w.among h i j ∙ rw (own_same M S e low g few h, there.among h i j);
              reach = put_reach ∙ w.reach ∙ ap (λ (x : ℕ). cond ends x g) (sym there.reach);
            });
      })

-- All groups are put.

-- The sets of the groups after the group g are put into M.
pub record Linking (M : List ℕ) (e g : ℕ) (S : List ℕ) : Type 0 where
  pub len : length S ≡ length M
  pub others : (k : ℕ) → (k < e * MEMBER + REACHES) ⊎ (e * MEMBER + MEMBER ≤ k) → get_or S k 0 ≡ get_or M k 0
  pub bits : (k : ℕ) → e * MEMBER + NEEDED ≤ k → k < e * MEMBER + SETS → get_or S k 0 ≡ get_or M k 0
  pub around : (n : ℕ) → g < n → n ≤ AND_GROUPS → Around S e n

pub linking_start : (M : List ℕ) (e : ℕ) → Linking M e AND_GROUPS M
linking_start M e = record { len = refl; others = λ k l. refl; bits = λ k a b. refl; around = λ n a b. absurd (omega arith) }

pub linking_on : (M : List ℕ) (e g h : ℕ) (S T : List ℕ) → Linking M e g S → g ≡ h + 1 → g ≤ AND_GROUPS → PutGroup S e g T → Linking M e h T
linking_on M e g h S T w is few put =
    record {
      len = put.len ∙ w.len;
      others = λ k l. put.others k (apart k l) (off k l) ∙ w.others k l;
      bits = λ k a b. put.others k (inl (omega arith)) (λ z. omega arith) ∙ w.bits k a b;
      around = λ n a b. go n a b (ℕ_discrete n g);
    }
  where
    apart : (k : ℕ) → (k < e * MEMBER + REACHES) ⊎ (e * MEMBER + MEMBER ≤ k) → (k < sets_from e g) ⊎ (sets_from e g + 2 * MEMBER_BITS ≤ k)
    apart k (inl l) = inl (omega arith)
    apart k (inr l) = inr (omega arith)

    off : (k : ℕ) → (k < e * MEMBER + REACHES) ⊎ (e * MEMBER + MEMBER ≤ k) → k ≡ e * MEMBER + REACHES + g → ⊥
    off k (inl l) z = omega arith
    off k (inr l) z = omega arith

    go : (n : ℕ) → h < n → n ≤ AND_GROUPS → Dec (n ≡ g) → Around T e n
    go n a b (yes z) = subst (Around T e) (sym z) put.around
    go n a b (no z) = around_same S T e (put_low S e g T few put.others) n b (λ m x y. put_same S e g T few put.others m y (λ q. omega arith)) (w.around n (omega arith) b)

-- The sets of all groups, and of the members that cannot be nothing, are put behind what M has of the element e.
pub record Linked (M : List ℕ) (e : ℕ) (S : List ℕ) : Type 0 where
  pub len : length S ≡ length M
  pub others : (k : ℕ) → (k < e * MEMBER + REACHES) ⊎ (e * MEMBER + MEMBER ≤ k) → get_or S k 0 ≡ get_or M k 0
  pub sets : MEMBERS ≤ length M → AllSets S e

pub linked_all : (M N : List ℕ) (e g : ℕ) (b : Bits) (S T : List ℕ) → M ≡ N → Has b (is_due M e) → PutBits M (e * MEMBER + NEEDED) b S → g ≡ 0 → Linking S e g T → Linked N e T
linked_all M N e g b S T is has put z w =
    subst (λ (x : List ℕ). Linked x e T) is
    (record {
      len = w.len ∙ put.len;
      others = others;
      sets = λ long.
          record {
            around = λ n a c some. w.around n (omega arith) c;
            needed = λ h a c few.
                bit_same S T (e * MEMBER + NEEDED) (λ k x y. w.bits k x (omega arith)) h a c
                ∙ put.bits (is_due M e) has h a c
                ∙ sym (due_same M T e (λ k l. others (e * MEMBER + k) (inl (omega arith))) h c few);
          };
    })
  where
    others : (k : ℕ) → (k < e * MEMBER + REACHES) ⊎ (e * MEMBER + MEMBER ≤ k) → get_or T k 0 ≡ get_or M k 0
    others k (inl l) = w.others k (inl l) ∙ put.others k (inl (omega arith))
    others k (inr l) = w.others k (inr l) ∙ put.others k (inr (omega arith))

pub linked_short : (M N : List ℕ) (e : ℕ) → M ≡ N → length M < MEMBERS → Linked N e M
linked_short M N e is short = subst (λ (x : List ℕ). Linked x e M) is (record { len = refl; others = λ k l. refl; sets = λ long. absurd (omega arith) })
