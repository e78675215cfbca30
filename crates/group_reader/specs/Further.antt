-- What follows a content token, in the rules' terms.
use Rattle.std.specs.Prelude.{ℕ, ◌+◌, ◌≡◌, ◌&&◌, Result, Ok, Err, cond, List, eqb, leb}
use Rattle.model_code.specs.Codes.{AND_CODE}
use Rattle.rules.specs.Reading.{Reading, refused, got}
use Rattle.rules.specs.TypeFile.{Further, closed, joined}
use Rattle.rules.specs.Bytes.{AND, GRPCNT}
use Rattle.model_code.specs.Six.{put_code, code_next}
use Rattle.group_reader.specs.declared.Next.{Next}
use Rattle.group_reader.specs.declared.Next.TheVariants.{Closed, Joined}
use Rattle.text.specs.declared.Fault.{Fault}
use Rattle.connectors.specs.Kept.{Begun, begun, Keeps}
use Rattle.content_tokens.specs.Meets.{Refuses}

-- The same start, where one number more is due: that of a group's ")".
abbrev pub before_end : Begun → Begun
before_end B = begun B.lo B.table B.code (B.due + 1)

-- An answer stands for a reading: the group's end, a further content token with what is kept of the k before and of it, or a refusal.
abbrev pub MeetsFurther : (end : ℕ) (B : Begun) (k : ℕ) (names table : List ℕ) → Result Next Fault → Reading Further → Type 0
MeetsFurther end B k names table (Ok (Closed m)) (got (closed t)) = Keeps end B 1 0 names table m t
MeetsFurther end B k names table (Ok (Closed m)) (got (joined b t)) = ⊥
MeetsFurther end B k names table (Ok (Closed m)) (refused n p) = ⊥
MeetsFurther end B k names table (Ok (Joined c m)) (got (closed t)) = ⊥
MeetsFurther end B k names table (Ok (Joined c m)) (got (joined b t)) = (c ≡ b) × Keeps end (before_end B) (k + 1) b names table m t
MeetsFurther end B k names table (Ok (Joined c m)) (refused n p) = ⊥
MeetsFurther end B k names table (Err f) x = Refuses f x

-- The code where a group of k content tokens joined by the connector ends.
abbrev pub closed_table : (k joint n : ℕ) → List ℕ → List ℕ
closed_table k joint n T = cond (eqb joint AND && leb k GRPCNT) (put_code T n (AND_CODE + k)) T

abbrev pub closed_code : (k joint n : ℕ) → ℕ
closed_code k joint n = cond (eqb joint AND && leb k GRPCNT) (code_next n) n
