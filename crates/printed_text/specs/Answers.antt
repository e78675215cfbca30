-- What is printed for each answer of the reader.
use Rattle.std.specs.Prelude.{ℕ, ◌*◌, ◌≤◌, ◌≡◌, List, ◌++◌, length, drop, replicate}
use Rattle.std.proofs.Common.{sym, ap, subst, ◌∙◌, arith}
use Rattle.std.proofs.lemmas.List.{length-replicate}
use Rattle.rules.specs.Settings.{Settings}
use Rattle.rules.specs.Lent.{numbers}
use Rattle.rules.specs.Reading.{got}
use Rattle.rules.specs.TypeFile.{Element}
use Rattle.rules.specs.Judge.{Answer, acceptance}
use Rattle.rules.specs.Events.{Event, event_width}
use Rattle.rules.specs.Reader.{event_numbers, Reads, RefusesBoth, not_offered, type_too_long, document_too_long, type_not_allowed, document_not_allowed, malformed, repeated, ambiguous, unsettled, no_room, ReadAs, refuses, accepts}
use Rattle.type_stage.specs.declared.Refused.{Refused}
use Rattle.type_stage.specs.declared.Refused.TheVariants.{InType, InDocument}
use Rattle.one_document.specs.Answer.{refusal_of}
use Rattle.printed_text.specs.Listed.{refusal_names}
use Rattle.rules.specs.Printed.{program_settings, program_room, input_text, refused_text, Prints, refusal}

-- What was read under the settings that the program gives.
pub read_given : {c : Settings} {s d before : List ℕ} {a : Answer} {after : List ℕ} → c ≡ program_settings → ReadAs numbers c s d before a after → ReadAs numbers program_settings s d before a after
read_given {s = s} {d} {before} {a} {after} e x = subst (λ (given : Settings). ReadAs numbers given s d before a after) e x

-- A refusal names its input, 1 or 2.
refuses_input : {c : Settings} {s d : List ℕ} {room : ℕ} {a : Answer} → RefusesBoth c s d room a → 1 ≤ a.input
refuses_input (not_offered o e) = rw e (omega arith)
refuses_input (type_too_long o l e) = rw e (omega arith)
refuses_input (document_too_long o l m e) = rw e (omega arith)
refuses_input (type_not_allowed o l m c e) = rw e (omega arith)
refuses_input (document_not_allowed l m c e) = rw e (omega arith)
refuses_input (malformed l n k r e) = rw e (omega arith)
refuses_input (repeated l es r v e) = rw e (omega arith)
refuses_input (ambiguous l es r v k p q f e) = rw e (omega arith)
refuses_input (unsettled es n k r e) = rw e (omega arith)
refuses_input (no_room es ev r f e) = rw e (omega arith)

-- What is known of an accepted document.
pub record Read (c : Settings) (s d after : List ℕ) (n : ℕ) : Type 0 where
  pub elements : List Element
  pub evs : List Event
  pub rest : List ℕ
  pub reads : Reads c s d elements (got evs)
  pub fits : event_width * length evs ≤ program_room
  pub count : n ≡ length evs
  pub written : after ≡ event_numbers evs ++ rest

module _ (c : Settings) (s d before : List ℕ) (a : Answer) (after : List ℕ) (lent : before ≡ replicate program_room 0) (answered : ReadAs numbers c s d before a after) where
  lent_length : length before ≡ program_room
  lent_length = ap length lent ∙ length-replicate {A = ℕ} program_room 0

  pub accepted_read : (n : ℕ) → a ≡ acceptance n → Read c s d after n
  accepted_read n e = by_answer answered
    where
      by_answer : ReadAs numbers c s d before a after → Read c s d after n
      by_answer (refuses x z) = absurd (omega (arith, refuses_input x, ap (λ (y : Answer). y.input) e))
      by_answer (accepts es ev r f q w) =
          record {
            elements = es;
            evs = ev;
            rest = drop (length (event_numbers ev)) before;
            reads = r;
            fits = omega (arith, lent_length);
            count = ap (λ (y : Answer). y.count) (sym e ∙ q);
            written = w;
          }

  refused_read : 1 ≤ a.input → RefusesBoth c s d program_room a
  refused_read h = by_answer answered
    where
      by_answer : ReadAs numbers c s d before a after → RefusesBoth c s d program_room a
      by_answer (refuses x z) = rw (← lent_length) x
      by_answer (accepts es ev r f q w) = absurd (omega (arith, ap (λ (y : Answer). y.input) q))

-- A refusal that is known prints its number, input and position.
-- The text of a refusal.
abbrev pub refusal_text : Answer → List ℕ
refusal_text a = refused_text a.number (input_text a.input) a.position

pub refused_names : (x : Refused) → 1 ≤ (refusal_of x).input
refused_names (InType t) = refusal_names t
refused_names (InDocument f) = omega arith

pub prints_refusal : (s d before after text : List ℕ) {a b : Answer} → before ≡ replicate program_room 0 → ReadAs numbers program_settings s d before a after → a ≡ b → 1 ≤ b.input
    → text ≡ refused_text b.number (input_text b.input) b.position → Prints s d text
prints_refusal s d before after text {a} {b} lent answered e h q =
    refusal b (rw e at (refused_read program_settings s d before a after lent answered (rw e h))) q
