-- What the functions of the code stand for: the six tests of a group, and what each form makes of them.
use Rattle.std.specs.Prelude.{ℕ, zero, suc, ◌+◌, ◌≡◌, Bool, false, cond, List, [], ◌∷◌, length, get_or, set, ltb, eqb}
use Rattle.model_code.specs.Codes.{ALT_CODE, AND_CODE, OPT_CODE, PLUS_CODE, SEQ_CODE}
use Rattle.layout.specs.Sizes.{MODEL_ROWS, CODE, POSITIONS}
use Rattle.and_laws.specs.Code.{Six, sixes}
use Rattle.model_code.specs.declared.Pairing.{Pairing}

-- A number put behind the n numbers of the code, if there is room.
abbrev pub put_code : List ℕ → (n op : ℕ) → List ℕ
put_code T n op = cond (ltb n CODE) (set T (MODEL_ROWS + n) op) T

abbrev pub code_next : ℕ → ℕ
code_next n = cond (ltb n CODE) (n + 1) n

-- A pairing is six tests.
abbrev pub six : Pairing → Six
six a = record { null = a.null; fp = a.begins_p; fq = a.begins_q; ep = a.extends_p; eq = a.extends_q; pq = a.clash }

-- What each form makes of them does not depend on the two places.
abbrev pub then_six : Six → Six → Six
then_six a b = (sixes 0 0).then a b

abbrev pub either_six : Six → Six → Six
either_six a b = (sixes 0 0).either a b

abbrev pub added_six : Six → Six → Six
added_six a b = (sixes 0 0).added a b

abbrev pub maybe_six : Six → Six
maybe_six a = (sixes 0 0).maybe a

abbrev pub many_six : Six → Six
many_six a = (sixes 0 0).many a

-- What is done to the group on the top of the stack, and to the two on its top.
abbrev of_top : (Six → Six) → List Six → List Six
of_top f [] = []
of_top f (v ∷ st) = f v ∷ st

abbrev of_two : (Six → Six → Six) → List Six → List Six
of_two f [] = []
of_two f (v ∷ []) = v ∷ []
of_two f (v ∷ (w ∷ st)) = f w v ∷ st

-- Two groups joined by a connector.
abbrev pub joined_six : ℕ → Six → Six → Six
joined_six op a b = cond (eqb op SEQ_CODE) (then_six a b) (cond (eqb op ALT_CODE) (either_six a b) (added_six a b))

-- One number of the code upon a stack of at most `POSITIONS`: a place, "?", "+", and "," "|" "&" between two groups; `AND_CODE` and more change nothing.
abbrev pub step_code : (p q op : ℕ) → List Six → List Six
step_code p q op st =
    cond
    (ltb op SEQ_CODE)
    (cond (ltb (length st) POSITIONS) ((sixes p q).at op ∷ st) st)
    (cond (eqb op OPT_CODE) (of_top maybe_six st) (cond (eqb op PLUS_CODE) (of_top many_six st) (cond (ltb op AND_CODE) (of_two (joined_six op) st) st)))

-- The first numbers of the code behind the rows, one after the other; fewer than CODE.
abbrev pub run_code : List ℕ → (p q n : ℕ) → List Six
run_code T p q zero = []
run_code T p q (suc n) = cond (ltb n CODE) (step_code p q (get_or T (MODEL_ROWS + n) 0) (run_code T p q n)) (run_code T p q n)

abbrev pub none_pairing : Pairing
none_pairing = record { null = false; begins_p = false; begins_q = false; extends_p = false; extends_q = false; clash = false }

-- The first n of the stack, the last of them first.
abbrev pub stacked : List Pairing → ℕ → List Six
stacked a zero = []
stacked a (suc n) = six (get_or a n none_pairing) ∷ stacked a n

-- Where the code leaves one group upon the stack, its last test is told.
abbrev pub Told : List ℕ → (p q n : ℕ) → Bool → Type 0
Told T p q n r = (v : Six) → run_code T p q n ≡ v ∷ [] → r ≡ v.pq
