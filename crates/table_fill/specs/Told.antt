-- The part of an element in the table of members: it still tells what it told where its numbers are as they were, and a model without "&" is told by none.
use Rattle.std.specs.Prelude.{ℕ, ◌+◌, ◌*◌, ◌≤◌, ◌<◌, ◌≡◌, true, ◌⊎◌, List, [], length, get_or, replicate}
use Rattle.std.proofs.Common.{sym, ◌∙◌, inl, inr, ⊎_elim, arith}
use Rattle.std.proofs.lemmas.List.{length-replicate}
use Rattle.std.proofs.Math.ListN.{get_or-eq_default}
use Rattle.rules.specs.Walk.{Group}
use Rattle.rules.specs.TypeFile.{Content, empty, model}
use Rattle.rules.specs.Bytes.{GRPGTCNT}
use Rattle.layout.specs.Sizes.{MEMBER, MEMBERS, CODE, CONTENTS}
use Rattle.model_sets.specs.Sets.{has, size, Numbered}
use Rattle.and_laws.specs.Sets.{Plain}
use Rattle.and_laws.specs.Numbers.{Guarded, has_range}
use Rattle.member_laws.specs.Members.{total, Sized, Told}
use Rattle.member_laws.specs.Inside.{plain_levels}
use Rattle.model_code.specs.Spelled.{codes, code_in}
use Rattle.member_table.specs.Filling.{filled}
use Rattle.member_table.specs.Tells.{HasRows, fills}
use Rattle.member_sets.specs.Linking.{Linked}
use Rattle.member_sets.specs.Telling.{told_still, told_none, Filled, filled_linked}
use Rattle.type_laws.specs.Members.{Without}
use Rattle.basic_laws.specs.Numbers.{replicate_at}

-- The content of an element is told; its places are 96 at most.
abbrev pub TellsIn : (M : List ℕ) (e : ℕ) → Content → Type 0
TellsIn M e empty = Unit {0}
TellsIn M e (model g ps n) = Told M e g × ((u : ℕ) → has g u ≡ true → u ≤ GRPGTCNT)

pub tells_still : (M S : List ℕ) (e : ℕ) → ((k : ℕ) → k < MEMBER → get_or S (e * MEMBER + k) 0 ≡ get_or M (e * MEMBER + k) 0) → length S ≡ length M → (c : Content) → TellsIn M e c → TellsIn S e c
tells_still M S e same len empty h = tt
tells_still M S e same len (model g ps n) (t, few) = (told_still M S e same len g few t, few)

-- A table of members that is lent: whole, or none where no "&" stands in the type file.
abbrev pub Lent : (s M : List ℕ) → Type 0
Lent s M = (length M ≡ MEMBERS) ⊎ ((length M ≡ 0) × Without s)

abbrev pub NoMembers : (s M : List ℕ) → Type 0
NoMembers s M = (M ≡ replicate MEMBERS 0) ⊎ ((M ≡ []) × Without s)

none_in : (M : List ℕ) → length M ≡ 0 → (k : ℕ) → get_or M k 0 ≡ 0
none_in M z k = get_or-eq_default M 0 (omega arith)

pub none_lent : (s M : List ℕ) → NoMembers s M → Lent s M
none_lent s M (inl e) = inl (rw e (length-replicate {A = ℕ} MEMBERS 0))
none_lent s M (inr (e, w)) = inr (rw e, w)

pub none_rest : (s M : List ℕ) → NoMembers s M → (k : ℕ) → get_or M k 0 ≡ 0
none_rest s M (inl e) k = rw e (replicate_at {A = ℕ} MEMBERS 0 k)
none_rest s M (inr (e, w)) k = rw e

pub lent_still : (s M S : List ℕ) → length S ≡ length M → Lent s M → Lent s S
lent_still s M S len (inl e) = inl (len ∙ e)
lent_still s M S len (inr (e, w)) = inr (len ∙ e, w)

-- What comes of M for the element e, whose model is g.
pub members_put :
    (s M S T : List ℕ) (e n : ℕ) (g : Group) → Lent s M → e < CONTENTS → ((k : ℕ) → e * MEMBER ≤ k → get_or M k 0 ≡ 0) → n ≤ CODE → code_in T n ≡ codes g → HasRows T g →
    Numbered g 1 → Guarded g → Sized g → size g ≤ GRPGTCNT → total g ≤ GRPGTCNT → (Without s → Plain g) → length S ≡ length M → Linked (filled M e T n) e S → Filled M e g S
members_put s M S T e n g lent within free room spelled rows numbered guarded sized few members plain len is =
    ⊎_elim
    (λ (long : length M ≡ MEMBERS).
    filled_linked M (filled M e T n) S e g long (λ u i. let range = has_range g 1 numbered u i in omega (arith, range.1)) (fills M T e n g long within (λ k l. free (e * MEMBER + k) (omega arith)) room spelled rows numbered guarded sized few members) is)
    (λ (z : (length M ≡ 0) × Without s).
    let none : (k : ℕ) → get_or S k 0 ≡ 0 = none_in S (len ∙ z.0) in
    record {
      told = told_none S e none g (plain_levels g (plain z.1) 0);
      len = len;
      others = λ k l. none k ∙ sym (none_in M z.0 k);
    })
    lent
