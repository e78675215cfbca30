-- Several events more: ends, which show what is due, and events that are neither ends nor data, before which it is settled; and a run of data.
use Rattle.std.specs.Prelude.{ℕ, zero, suc, ◌≤◌, ◌≡◌, refl, Bool, true, false, ◌||◌, List, [], ◌∷◌, ◌++◌, eqb}
use Rattle.std.proofs.Common.{sym, ◌∙◌, ap, ap₂, append_assoc, append-nil, eqb-true, ne_eqb, arith}
use Rattle.rules.specs.Settings.{Settings}
use Rattle.rules.specs.Events.{Event, data_run}
use Rattle.rules.specs.Records.{is_end, due_run, records_settled}
use Rattle.rules_laws.specs.In.{All, none, more}
use Rattle.rules_laws.specs.BeforeStarts.{Plain, plain_none, plain_data}
use Rattle.record_due.specs.Due.{due, shown, settled_to, due_one, settled_one, settled_append, due_append, to_end, to_other, shown_other}

-- All of these are ends; none of these is an end or data.
abbrev pub Ends : List Event → Type 0
Ends ev = All (λ (e : Event). is_end e ≡ true) ev

abbrev pub Quiet : List Event → Type 0
Quiet ev = All (λ (e : Event). (is_end e ≡ false) × (eqb e.kind 5 ≡ false)) ev

pub end_no_data : (e : Event) → is_end e ≡ true → eqb e.kind 5 ≡ false
end_no_data e h = go (eqb e.kind 3) refl h
  where
    go : (b : Bool) → eqb e.kind 3 ≡ b → (b || eqb e.kind 4) ≡ true → eqb e.kind 5 ≡ false
    go true k h = ne_eqb e.kind 5 (λ q. omega (arith, eqb-true e.kind 3 k))
    go false k h = ne_eqb e.kind 5 (λ q. omega (arith, eqb-true e.kind 4 h))

both : {a b : List Event} (x y : List Event) → x ≡ a → y ≡ b → x ++ y ≡ a ++ b
both x y p q = ap₂ (λ (u v : List Event). u ++ v) p q

module _ (c : Settings) (d : List ℕ) where
  -- An end

  pub due_end : (a : List Event) (f : Event) → is_end f ≡ true → due c d (a ++ f ∷ []) ≡ due c d a ++ f ∷ []
  due_end a f h = due_append c d a f [] ∙ both (settled_to c d f a) (due c d (f ∷ [])) (to_end c d f a h) (due_one c d f ∙ shown_other c d f (end_no_data f h))

  pub settled_end : (a : List Event) (f : Event) → is_end f ≡ true → records_settled c d (a ++ f ∷ []) ≡ due c d a ++ f ∷ []
  settled_end a f h = settled_append c d a f [] ∙ both (settled_to c d f a) (records_settled c d (f ∷ [])) (to_end c d f a h) (settled_one c d f)

  pub due_ends : (a : List Event) {b : List Event} → Ends b → due c d (a ++ b) ≡ due c d a ++ b
  due_ends a none = ap (due c d) (append-nil a) ∙ sym (append-nil (due c d a))
  due_ends a (more {x = f} {xs = b} h ends) =
      ap (due c d) (sym (append_assoc a (f ∷ []) b)) ∙ due_ends (a ++ f ∷ []) ends ∙ ap (λ (v : List Event). v ++ b) (due_end a f h) ∙ append_assoc (due c d a) (f ∷ []) b

  -- Where at least one end comes, what is due is settled by it.
  pub settled_ends : (a : List Event) (f : Event) (b : List Event) → is_end f ≡ true → Ends b → records_settled c d (a ++ f ∷ b) ≡ due c d a ++ f ∷ b
  settled_ends a f [] h none = settled_end a f h
  settled_ends a f (g ∷ b) h (more i ends) =
      ap (records_settled c d) (sym (append_assoc a (f ∷ []) (g ∷ b))) ∙ settled_ends (a ++ f ∷ []) g b i ends ∙ ap (λ (v : List Event). v ++ g ∷ b) (due_end a f h) ∙ append_assoc (due c d a) (f ∷ []) (g ∷ b)

  -- Another event

  pub settled_other : (a : List Event) (f : Event) → is_end f ≡ false → records_settled c d (a ++ f ∷ []) ≡ records_settled c d a ++ f ∷ []
  settled_other a f h = settled_append c d a f [] ∙ both (settled_to c d f a) (records_settled c d (f ∷ [])) (to_other c d f a h) (settled_one c d f)

  pub due_other : (a : List Event) (f : Event) → is_end f ≡ false → due c d (a ++ f ∷ []) ≡ records_settled c d a ++ shown c d f
  due_other a f h = due_append c d a f [] ∙ both (settled_to c d f a) (due c d (f ∷ [])) (to_other c d f a h) (due_one c d f)

  pub settled_quiet : (a : List Event) {b : List Event} → Quiet b → records_settled c d (a ++ b) ≡ records_settled c d a ++ b
  settled_quiet a none = ap (records_settled c d) (append-nil a) ∙ sym (append-nil (records_settled c d a))
  settled_quiet a (more {x = f} {xs = b} h rest) =
      ap (records_settled c d) (sym (append_assoc a (f ∷ []) b)) ∙ settled_quiet (a ++ f ∷ []) rest ∙ ap (λ (v : List Event). v ++ b) (settled_other a f h.0) ∙ append_assoc (records_settled c d a) (f ∷ []) b

  pub due_quiet : (a : List Event) (f : Event) (b : List Event) → (is_end f ≡ false) × (eqb f.kind 5 ≡ false) → Quiet b → due c d (a ++ f ∷ b) ≡ records_settled c d a ++ f ∷ b
  due_quiet a f [] h none = due_other a f h.0 ∙ ap (λ (v : List Event). records_settled c d a ++ v) (shown_other c d f h.1)
  due_quiet a f (g ∷ b) h (more i rest) =
      ap (due c d) (sym (append_assoc a (f ∷ []) (g ∷ b))) ∙ due_quiet (a ++ f ∷ []) g b i rest ∙ ap (λ (v : List Event). v ++ g ∷ b) (settled_other a f h.0) ∙ append_assoc (records_settled c d a) (f ∷ []) (g ∷ b)

  -- A run of data

  pub settled_run : (a : List Event) (at n : ℕ) → records_settled c d (a ++ data_run at n ∷ []) ≡ records_settled c d a ++ data_run at n ∷ []
  settled_run a at n = settled_other a (data_run at n) refl

  pub due_run_lem : (a : List Event) (at n : ℕ) → due c d (a ++ data_run at n ∷ []) ≡ records_settled c d a ++ shown c d (data_run at n)
  due_run_lem a at n = due_other a (data_run at n) refl

-- A run of nothing is no event, any other one.
pub no_run : (at n : ℕ) → n ≡ 0 → due_run at n ≡ []
no_run at zero e = refl
no_run at (suc n) e = absurd (omega arith)

pub run_whole : (at n : ℕ) → 1 ≤ n → due_run at n ≡ data_run at n ∷ []
run_whole at zero h = absurd (omega arith)
run_whole at (suc n) h = refl

-- Attribute events come before no run that is due.
pub plain_run : (at n : ℕ) → Plain (due_run at n)
plain_run at zero = plain_none
plain_run at (suc n) = plain_data at (suc n)
