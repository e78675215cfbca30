-- The table that is filled from a model's code and rows tells the members of its "&" groups and their sets; what it tells stays where its numbers stay.
use Rattle.std.specs.Prelude.{ℕ, ◌+◌, ◌-◌, ◌*◌, ◌/◌, ◌%◌, ◌^◌, ◌≤◌, ◌<◌, ◌≡◌, Bool, true, false, ◌⊎◌, List, [], ◌∷◌, eqb, length, get_or}
use Rattle.std.proofs.Common.{sym, ◌∙◌, ap, subst, inl, inr, arith, le-ltb}
use Rattle.std.proofs.lemmas.Nat.{shr_le}
use Rattle.rules.specs.Walk.{Group, Members}
use Rattle.rules.specs.Bytes.{GRPGTCNT}
use Rattle.layout.specs.Sizes.{POSITIONS, AND_GROUPS, REACHES, NEEDED, MEMBER, MEMBERS}
use Rattle.model_sets.specs.Sets.{has, required_first, amount}
use Rattle.and_laws.specs.Ranked.{Level, levels}
use Rattle.member_laws.specs.Members.{needs, bit_at, holder_at, group_at, due_at, record_at, first_at, needed_at, AllSets, Ordered, Grouped, Chain, Told}
use Rattle.member_laws.specs.Numbered.{amount_both, each_at, at_each, Ranged, needed, spare, numbered_range}
use Rattle.member_table.specs.Tells as tells
use Rattle.member_sets.specs.Storing.{bit_same}
use Rattle.member_sets.specs.Linking.{Low, same_sets, group_same, record_same, first_same, due_same, around_same, Linked, low_at}

number_below : (first : ℕ) (m : Members) (n : ℕ) (k : Group) → Ranged first (needs m) m n k → n < first + amount m
number_below first m n k (needed a b c) = omega (arith, amount_both m)
number_below first m n k (spare a b c) = omega (arith, amount_both m)

-- Groups and chains lie before the sets.
module _ (M S : List ℕ) (e : ℕ) (same : Low M S e) where
  grouped_still : (l : Level) → Grouped M e l → Grouped S e l
  grouped_still l h =
      let first = first_same M S e same l.number h.within in
      let start : ℕ = first_at M e l.number in
      let room : start + amount l.members ≤ POSITIONS = h.room in
      record {
        within = h.within;
        some = rw first h.some;
        room = rw first h.room;
        few = h.few;
        needed = record_same M S e same l.number 1 h.within (omega arith) ∙ h.needed;
        size = record_same M S e same l.number 2 h.within (omega arith) ∙ h.size;
        members =
            rw first
            (at_each start (needs l.members) (λ (n : ℕ) (g : Group). (group_at S e n ≡ l.number) × (due_at S e n ≡ required_first g)) l.members
            (λ n k i.
            let below = number_below start l.members n k (numbered_range start (needs l.members) l.members n k i) in
            let (a, b) = each_at start (needs l.members) (λ (n : ℕ) (g : Group). (group_at M e n ≡ l.number) × (due_at M e n ≡ required_first g)) l.members h.members n k i in
            (low_at M S e same _ (POSITIONS + n) (omega arith) (omega arith) ∙ a, low_at M S e same _ (2 * POSITIONS + n) (omega arith) (omega arith) ∙ b)));
      }

  chain_still : (u : ℕ) (ls : List Level) (ends : Bool) (h h' : ℕ) → h' ≡ h → Chain M e u ends h ls → Chain S e u ends h' ls
  chain_still u [] ends h h' q c = q ∙ c
  chain_still u (l ∷ ls) ends h h' q (g, flag, is, last, rest) = (
    grouped_still l g,
    flag,
    rw (first_same M S e same l.number g.within) (q ∙ is),
    last,
    chain_still u ls _ _ _ (record_same M S e same l.number 3 g.within (omega arith)) rest,
  )

  start_still : holder_at M e 0 ≡ 0 → holder_at S e 0 ≡ 0
  start_still z = low_at M S e same _ 0 (omega arith) (omega arith) ∙ z

  places_still : (g : Group) → ((u : ℕ) → has g u ≡ true → u ≤ GRPGTCNT) → ((u : ℕ) → has g u ≡ true → Chain M e u true (holder_at M e u) (levels g 0 u)) → (u : ℕ) → has g u ≡ true → Chain S e u true (holder_at S e u) (levels g 0 u)
  places_still g few h u i = chain_still u (levels g 0 u) true _ _ (low_at M S e same _ u (omega arith) (omega (arith, few u i))) (h u i)

  order_still : Ordered M e → Ordered S e
  order_still h n m a b c some =
      let first = first_same M S e same in
      rw (first n (omega arith), record_same M S e same n 2 (omega arith) (omega arith), first m c) (h n m a b c (subst (λ (x : ℕ). 1 ≤ x) (first m c) some))

module _ (M S : List ℕ) (e : ℕ) (same : (k : ℕ) → k < MEMBER → get_or S (e * MEMBER + k) 0 ≡ get_or M (e * MEMBER + k) 0) where
  early : Low M S e
  early k l = same k (omega arith)

  from : (k : ℕ) → e * MEMBER ≤ k → k < e * MEMBER + MEMBER → get_or S k 0 ≡ get_or M k 0
  from k a b =
      let z : e * MEMBER + (k - e * MEMBER) ≡ k = omega arith in
      subst (λ (i : ℕ). get_or S i 0 ≡ get_or M i 0) z (same (k - e * MEMBER) (omega arith))

  sets_still : AllSets M e → AllSets S e
  sets_still h =
      record {
        around = λ n a b some.
            around_same M S e early n b (λ m x y. same_sets M S e m (λ k p q. from k (omega arith) (omega arith)) (from (e * MEMBER + REACHES + m) (omega arith) (omega arith)))
            (h.around n a b (subst (λ (x : ℕ). 1 ≤ x) (first_same M S e early n b) some));
        needed = λ n a b few.
            bit_same M S (e * MEMBER + NEEDED) (λ k x y. from k (omega arith) (omega arith)) n a b
            ∙ h.needed n a b (subst (λ (x : ℕ). x ≤ AND_GROUPS) (group_same M S e early n b) few)
            ∙ sym (due_same M S e early n b few);
      }

  pub told_still : length S ≡ length M → (g : Group) → ((u : ℕ) → has g u ≡ true → u ≤ GRPGTCNT) → Told M e g → Told S e g
  told_still len g few h =
      record {
        start = start_still M S e early h.start;
        places = places_still M S e early g few h.places;
        sets = sets_still h.sets;
        order = order_still M S e early h.order;
        whole = λ u i. subst (λ (n : ℕ). (levels g 0 u ≡ []) ⊎ (MEMBERS ≤ n)) (sym len) (h.whole u i);
      }

-- A table of nothing but 0 tells a model without "&".
module _ (S : List ℕ) (e : ℕ) (none : (k : ℕ) → get_or S k 0 ≡ 0) where
  none_set : (i h : ℕ) → bit_at S i h ≡ false
  none_set i h =
      let z : 0 / 2 ^ ((h - 1) % 8) ≡ 0 = omega (arith, shr_le 0 ((h - 1) % 8)) in
      ap (λ (x : ℕ). eqb (x / 2 ^ ((h - 1) % 8) % 2) 1) (none (i + (h - 1) / 8)) ∙ ap (λ (x : ℕ). eqb (x % 2) 1) z

  pub told_none : (g : Group) → ((u : ℕ) → levels g 0 u ≡ []) → Told S e g
  told_none g empty =
      record {
        start = none (e * MEMBER + 0);
        places = λ u i. rw (empty u) (none (e * MEMBER + u));
        sets =
            record {
              around = λ n a b some. absurd (omega (arith, none (record_at S e n)));
              needed = λ h a b few.
                  let n = group_at S e h in
                  none_set (e * MEMBER + NEEDED) h ∙ sym (le-ltb h (first_at S e n + needed_at S e n) (omega (arith, none (record_at S e n), none (record_at S e n + 1))));
            };
        order = λ n m a b c some. absurd (omega (arith, none (record_at S e m)));
        whole = λ u i. inl (empty u);
      }

-- What comes of M for the element e, whose model is g: its part tells the members, and nothing else has changed.
pub record Filled (M : List ℕ) (e : ℕ) (g : Group) (S : List ℕ) : Type 0 where
  pub told : Told S e g
  pub len : length S ≡ length M
  pub others : (k : ℕ) → (k < e * MEMBER) ⊎ (e * MEMBER + MEMBER ≤ k) → get_or S k 0 ≡ get_or M k 0

pub filled_linked : (M S T : List ℕ) (e : ℕ) (g : Group) → length M ≡ MEMBERS → ((u : ℕ) → has g u ≡ true → u ≤ GRPGTCNT) → tells.Filled M e g S → Linked S e T → Filled M e g T
filled_linked M S T e g long few filled linked =
    let low : Low S T e = λ k l. linked.others (e * MEMBER + k) (inl (omega arith)) in
    let whole : MEMBERS ≤ length S = omega (arith, filled.len) in
    record {
      told =
          record {
            start = start_still S T e low filled.start;
            places = places_still S T e low g few filled.places;
            sets = linked.sets whole;
            order = order_still S T e low filled.order;
            whole = λ u i. inr (omega (arith, linked.len));
          };
      len = linked.len ∙ filled.len;
      others = λ k l. linked.others k (wider k l) ∙ filled.others k l;
    }
  where
    wider : (k : ℕ) → (k < e * MEMBER) ⊎ (e * MEMBER + MEMBER ≤ k) → (k < e * MEMBER + REACHES) ⊎ (e * MEMBER + MEMBER ≤ k)
    wider k (inl l) = inl (omega arith)
    wider k (inr l) = inr l
