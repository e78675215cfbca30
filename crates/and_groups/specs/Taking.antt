-- A place is taken: the members around it have begun besides those that had, and what blocks is found by the bits after it.
use Rattle.std.specs.Prelude.{ℕ, ◌+◌, ◌%◌, ◌≤◌, ◌<◌, ◌≡◌, refl, Bool, true, false, ◌||◌, ◌⊎◌, List, [], ◌∷◌, ◌++◌, length}
use Rattle.std.proofs.Common.{sym, ◌∙◌, ap, subst, inl, inr, arith}
use Rattle.rules.specs.Walk.{Group, Members}
use Rattle.rules.specs.Bytes.{GRPGTCNT}
use Rattle.layout.specs.Sizes.{MEMBERS, ENDING}
use Rattle.model_sets.specs.Sets.{Numbered, size, has, has_m}
use Rattle.and_laws.specs.Base.{mem}
use Rattle.and_laws.specs.Sets.{meets, Good}
use Rattle.and_laws.specs.Numbers.{Guarded, has_range, numbered_good}
use Rattle.and_laws.specs.Req.{required_rest}
use Rattle.and_laws.specs.Levels.{blocks_in, lone_in}
use Rattle.and_laws.specs.Ranked.{count, Level, levels, groups_of, levels_around, levels_rise}
use Rattle.and_laws.specs.Taken.{IsLast, last_taken}
use Rattle.member_laws.specs.Members.{Each, needs, first_at, holder_at, Grouped, Chain, Told, begun_at, Marked, AllMarked, Standing}
use Rattle.member_laws.specs.Own.{OwnOr0, rest_own}
use Rattle.member_laws.specs.Numbered.{at_each, each_at}
use Rattle.member_laws.specs.Inside.{level_has, EachLevel, each_level, IsAround, levels_are}
use Rattle.member_laws.specs.Around.{is_holder, numbered_small, chain_kept, marked_each, is_holder_lem, meets_more, meets_none}
use Rattle.member_laws.specs.Sets.{short_none}
use Rattle.member_bits.specs.declared.Bits.{Bits}
use Rattle.member_bits.specs.Having.{Has}
use Rattle.member_bits.specs.Operations.{has_same}
use Rattle.begun_bits.specs.Levels.{Puts}
use Rattle.and_groups.specs.Takes.{Takes, Blocked, free, held, FREE}
use Rattle.and_groups.specs.Asked as asked
use Rattle.and_groups.specs.Asked.{Enters, Blocks, Blocking, Due}

-- The members B of the group are those of which a place was taken.
abbrev MarkedBy : (M : List ℕ) (e : ℕ) (B S : ℕ → Bool) → Level → Type 0
MarkedBy M e B S l = Each (λ (n : ℕ) (k : Group). B n ≡ meets k S) (first_at M e l.number) (needs l.members) l.members

-- Before the place is taken b has the members of which a place was taken.
pub record Ready (M : List ℕ) (level e u : ℕ) (before : List ℕ) (b : Bits) : Type 0 where
  pub B : ℕ → Bool
  pub bits : Has b B
  pub stand : (g : Group) → Told M e g → (taken : List ℕ) → Standing before level M e g u taken → (q : ℕ) → has g q ≡ true → EachLevel (MarkedBy M e B (mem taken)) (levels g 0 q)

-- After another place they are those that had begun.
pub ready_on : (M : List ℕ) (level e u : ℕ) (before : List ℕ) (b : Bits) → (u ≡ 0 → ⊥) → Has b (begun_at before level) → Ready M level e u before b
ready_on M level e u before b some is = record { B = begun_at before level; bits = is; stand = λ g told taken stands q i. marked_each M e before level (mem taken) (levels g 0 q) (stands.marked (omega arith) q i) }

-- At the start there is none.
pub ready_start : (M : List ℕ) (level e u : ℕ) (before : List ℕ) (b : Bits) → u ≡ 0 → Has b (λ (n : ℕ). false) → Ready M level e u before b
ready_start M level e u before b z is = record { B = λ (n : ℕ). false; bits = is; stand = λ g told taken stands q i. each taken (subst (IsLast taken) z stands.last) (levels g 0 q) }
  where
    each : (taken : List ℕ) → taken ≡ [] → (ls : List Level) → EachLevel (MarkedBy M e (λ (n : ℕ). false) (mem taken)) ls
    each taken y [] = refl
    each taken y (l ∷ ls) = (at_each (first_at M e l.number) (needs l.members) (λ (n : ℕ) (k : Group). false ≡ meets k (mem taken)) l.members (λ n k i. sym (ap (λ (s : List ℕ). meets k (mem s)) y ∙ meets_none k)), each taken y ls)

-- The place that a group requires is one of the model's.
rest_small : (g : Group) → Numbered g 1 → size g ≤ GRPGTCNT → (p : ℕ) (l : Level) → IsAround g 0 p l → (S : ℕ → Bool) → required_rest l.members S ≤ GRPGTCNT
rest_small g numbered few p l (i, x) S = go (rest_own l.members S)
  where
    go : OwnOr0 (has_m l.members) (required_rest l.members S) → required_rest l.members S ≤ GRPGTCNT
    go (inl z) = omega arith
    go (inr y) = omega (arith, has_range g 1 numbered (required_rest l.members S) (level_has g 0 l i (required_rest l.members S) y))

-- The place is taken.
module _ (M : List ℕ) (level e u p : ℕ) (before after : List ℕ) (h : ℕ) (b now : Bits) (ready : Ready M level e u before b) (read : h ≡ holder_at M e p) (enters : Enters M e (h % ENDING) b now) (puts : Puts level now before after) where
  module _ (g : Group) (good : Good g) (told : Told M e g) (taken : List ℕ) (standing : Standing before level M e g u taken) (here : has g p ≡ true) where
    kept_at : (q : ℕ) → has g q ≡ true → EachLevel (Grouped M e) (levels g 0 q)
    kept_at q i = chain_kept M e q true _ (levels g 0 q) (told.places q i)

    entered : Has now (λ (n : ℕ). ready.B n || is_holder M e p n (levels g 0 p))
    entered =
        enters.bits told.sets ready.B ready.bits p true (holder_at M e p) (0 + count g) (levels g 0 p) (ap (λ (x : ℕ). x % ENDING) read) (told.places p here) (levels_rise g 0 p)
        (each_level (IsAround g 0 p) (λ (l : Level). has_m l.members p ≡ true) (λ l x. x.1) (levels g 0 p) (levels_are g 0 p here))

    -- These members have begun after it.
    has_now : Has now (begun_at after level)
    has_now = has_same (λ n x y. sym (puts.bits _ entered n x y)) entered

    marked_more : (q : ℕ) (l : Level) → IsAround g 0 q l → Grouped M e l → MarkedBy M e ready.B (mem taken) l → Marked after level M e (mem (taken ++ p ∷ [])) l
    marked_more q l (i, x) kept marked =
        at_each _ _ (λ (n : ℕ) (k : Group). begun_at after level n ≡ meets k (mem (taken ++ p ∷ []))) l.members
        (λ n k j.
        let small = numbered_small M e l kept n k j in
        puts.bits _ entered n small.0 (omega arith)
        ∙ ap (λ (t : Bool). t || is_holder M e p n (levels g 0 p)) (each_at _ _ (λ (n : ℕ) (k : Group). ready.B n ≡ meets k (mem taken)) l.members marked n k j)
        ∙ ap (λ (t : Bool). meets k (mem taken) || t) (is_holder_lem M e g good p here (kept_at p here) l i kept n k j)
        ∙ sym (meets_more k taken p))

    each_more : (q : ℕ) (ls : List Level) → EachLevel (IsAround g 0 q) ls → EachLevel (Grouped M e) ls → EachLevel (MarkedBy M e ready.B (mem taken)) ls → AllMarked after level M e (mem (taken ++ p ∷ [])) ls
    each_more q [] a k m = refl
    each_more q (l ∷ ls) (a, b) (k, ks) (m, n) = (marked_more q l a k m, each_more q ls b ks n)

    marked_all : (q : ℕ) → has g q ≡ true → AllMarked after level M e (mem (taken ++ p ∷ [])) (levels g 0 q)
    marked_all q i = each_more q (levels g 0 q) (levels_are g 0 q i) (kept_at q i) (ready.stand g told taken standing q i)

  stands : (g : Group) → Numbered g 1 → Guarded g → Told M e g → (taken : List ℕ) → Standing before level M e g u taken → has g p ≡ true → Standing after level M e g p (taken ++ p ∷ [])
  stands g numbered guarded told taken standing here = record { last = last_taken taken p (has_range g 1 numbered p here).0; marked = λ a. marked_all g (numbered_good g 1 numbered guarded) told taken standing here }

  module _ (x : ℕ) (blocks : Blocks M e h now x) where
    at_block : (g : Group) → Numbered g 1 → Guarded g → Told M e g → (taken : List ℕ) → Standing before level M e g u taken → has g p ≡ true → Blocking M after level e g p (mem (taken ++ p ∷ [])) (levels g 0 p) x
    at_block g numbered guarded told taken standing here =
        let good = numbered_good g 1 numbered guarded in
        blocks.says told.sets told.order after level (has_now g good told taken standing here) g p (mem (taken ++ p ∷ [])) (levels g 0 p) (0 + count g) (subst (λ (y : ℕ). Chain M e p true y (levels g 0 p)) (sym read) (told.places p here)) (levels_rise g 0 p) (levels_are g 0 p here) (marked_all g good told taken standing here p here)

    taken_by : (r : ℕ) → (r ≡ FREE) ⊎ (r ≤ GRPGTCNT) → ((g : Group) → Numbered g 1 → size g ≤ GRPGTCNT → (told : Told M e g) (S : ℕ → Bool) → has g p ≡ true → Has now (begun_at after level) → Blocking M after level e g p S (levels g 0 p) x → Blocked g p S r) → Takes M level e u p before after r
    taken_by r small f =
        record {
          whole = puts.whole;
          elsewhere = puts.elsewhere;
          small = small;
          stands = stands;
          blocked = λ g numbered guarded few told taken standing here. f g numbered few told (mem (taken ++ p ∷ [])) here (has_now g (numbered_good g 1 numbered guarded) told taken standing here) (at_block g numbered guarded told taken standing here);
        }

    pub takes_free : x ≡ 0 → Takes M level e u p before after FREE
    takes_free z = taken_by FREE (inl refl) (λ g numbered few told S here is. go g S)
      where
        go : (g : Group) (S : ℕ → Bool) → Blocking M after level e g p S (levels g 0 p) x → Blocked g p S FREE
        go g S (asked.free y w) = free refl (ap (λ (ms : List Members). blocks_in ms p S) (sym (levels_around g 0 p)) ∙ w)
        go g S (asked.held some l waits kept marked is y w) = absurd (omega arith)

    pub takes_held : (x ≡ 0 → ⊥) → (r : ℕ) → Due M e h x now r → Takes M level e u p before after r
    takes_held n r due = taken_by r (inr due.small) go
      where
        go : (g : Group) → Numbered g 1 → size g ≤ GRPGTCNT → (told : Told M e g) (S : ℕ → Bool) → has g p ≡ true → Has now (begun_at after level) → Blocking M after level e g p S (levels g 0 p) x → Blocked g p S r
        go g numbered few told S here is (asked.free y w) = absurd (n y)
        go g numbered few told S here is (asked.held some l waits kept marked a y w) =
            held
            (due.says told.sets after level is p S (0 + count g) (levels g 0 p) (subst (λ (y : ℕ). Chain M e p true y (levels g 0 p)) (sym read) (told.places p here)) (levels_rise g 0 p) (each_level (IsAround g 0 p) (λ (l : Level). has_m l.members p ≡ true) (λ l x. x.1) (levels g 0 p) (levels_are g 0 p here)) l waits kept marked (rest_small g numbered few p l a S)
            ∙ sym w
            ∙ ap (λ (ms : List Members). lone_in ms S) (levels_around g 0 p))
            due.small
            (ap (λ (ms : List Members). blocks_in ms p S) (sym (levels_around g 0 p)) ∙ y)

pub takes_short : (M : List ℕ) (level e u p : ℕ) (before : List ℕ) → length M < MEMBERS → Takes M level e u p before before FREE
takes_short M level e u p before short =
    record {
      whole = refl;
      elsewhere = λ k j x l. refl;
      small = inl refl;
      stands = λ g numbered guarded told taken standing here.
          record {
            last = last_taken taken p (has_range g 1 numbered p here).0;
            marked = λ a q i. subst (AllMarked before level M e (mem (taken ++ p ∷ []))) (sym (short_none M e g short told q i)) refl;
          };
      blocked = λ g numbered guarded few told taken standing here.
          free refl (ap (λ (ms : List Members). blocks_in ms p (mem (taken ++ p ∷ []))) (sym (levels_around g 0 p)) ∙ ap (λ (ls : List Level). blocks_in (groups_of ls) p (mem (taken ++ p ∷ []))) (short_none M e g short told p here));
    }
