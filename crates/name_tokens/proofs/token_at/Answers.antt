-- `token_at` meets its contract: each way by the tests that led there.
use Prim.Native.Nat.{ℕ, ◌-◌, ◌≤◌, ◌<◌}
use Rattle.std.specs.Prelude.{Bool, ◌||◌, eqb}
use mathlib.Core.List.{List}
use mathlib.Core.Path.{◌≡◌, sym, ◌∙◌, ap}
use native.Mathlib.Omega.{arith}
use lib.ListN.{length}
use Rattle.rules.specs.Bytes.{byte_at, name_end, DSO, PERO}
use Rattle.rules.specs.TypeFile.{is_token}
use Rattle.text.specs.Refusal.{refusal_of}
use Rattle.text.specs.Words.{name_end_from, name_end_le}
use Rattle.name_tokens.specs.TokenByToken.{token_left_out, token_none, token_long, token_full, token_twice, token_got}
use Rattle.name_tokens.proofs.token_at.Goals as goal

-- The token has a byte, and ends in the text.
some : (s : List ℕ) (i e : ℕ) → i ≤ length s → e ≡ name_end s i → (e ≡ i → ⊥) → (i < e) × (e ≤ length s)
some s i e l h n = (omega (arith, name_end_from s i, h, n), omega (arith, name_end_le s i l, h))

-- What the test of the byte at i told, in the rules' terms.
test : (s : List ℕ) (i : ℕ) {b : ℕ} {r : Bool} → b ≡ byte_at s i → r ≡ (eqb b DSO || eqb b PERO)
    → r ≡ (eqb (byte_at s i) DSO || eqb (byte_at s i) PERO)
test s i q h = h ∙ ap (λ v. eqb v DSO || eqb v PERO) q

pub returns-then-is_left_out : goal.returns-then-is_left_out
returns-then-is_left_out c = let a = c.args in
    let told = test a.s.now a.i c.byte.ensures c.is_left_out.ensures in record {
      result_value = λ ts ps l q.
          ap refusal_of c.at.ensures
          ∙ sym (token_left_out a.long a.s.now ts ps a.i _ c.name_end-e.ensures c.if-e-i.true told c.if-is_left_out.true);
      token_in = tt;
    }

pub returns-then-e-i : goal.returns-then-e-i
returns-then-e-i c = let a = c.args in
    let told = test a.s.now a.i c.byte.ensures c.is_left_out.ensures in record {
      result_value = λ ts ps l q.
          ap refusal_of c.at-then-e-i.ensures
          ∙ sym (token_none a.long a.s.now ts ps a.i _ c.name_end-e.ensures c.if-e-i.true told c.if-is_left_out.false);
      token_in = tt;
    }

pub overflow_sub-e : goal.overflow_sub-e
overflow_sub-e c = omega (arith, some c.args.s.now c.args.i _ c.requires.0 c.name_end-e.ensures c.if-e-i.false)

pub returns-then-long-e : goal.returns-then-long-e
returns-then-long-e c = let a = c.args in
    let r = some a.s.now a.i _ c.requires.0 c.name_end-e.ensures c.if-e-i.false in
    record { result_value = λ ts ps l q. ap refusal_of c.at-then-long-e.ensures ∙ sym (token_long a.long a.s.now ts ps a.i _ c.name_end-e.ensures r.0 c.if-long-e.true); token_in = tt }

pub returns-then-k-ge-GRPCNT : goal.returns-then-k-ge-GRPCNT
returns-then-k-ge-GRPCNT c = let a = c.args in
    let r = some a.s.now a.i _ c.requires.0 c.name_end-e.ensures c.if-e-i.false in record {
      result_value = λ ts ps l q.
          ap refusal_of c.at-then-k-ge-GRPCNT.ensures ∙ sym (token_full a.long a.s.now ts ps a.i _ c.name_end-e.ensures r.0 c.if-long-e.false (omega (arith, l, c.if-k-ge-GRPCNT.true)));
      token_in = tt;
    }

pub overflow_sub-e-2 : goal.overflow_sub-e-2
overflow_sub-e-2 c = omega (arith, some c.args.s.now c.args.i _ c.requires.0 c.name_end-e.ensures c.if-e-i.false)

pub is_seen-requires : goal.is_seen-requires
is_seen-requires c = omega (arith, some c.args.s.now c.args.i _ c.requires.0 c.name_end-e.ensures c.if-e-i.false)

pub returns-then-is_seen : goal.returns-then-is_seen
returns-then-is_seen c = let a = c.args in
    let r = some a.s.now a.i _ c.requires.0 c.name_end-e.ensures c.if-e-i.false in record {
      result_value = λ ts ps l q.
          ap refusal_of c.at-then-is_seen.ensures
          ∙ sym (token_twice a.long a.s.now ts ps a.i _ c.name_end-e.ensures r.0 c.if-long-e.false (omega (arith, l, c.if-k-ge-GRPCNT.false))
          (c.is_seen.ensures ∙ ap (λ r. is_token a.s.now r a.i (c.name_end-e.result - a.i)) q) c.if-is_seen.true);
      token_in = tt;
    }

pub returns : goal.returns
returns c = let a = c.args in
    let r = some a.s.now a.i _ c.requires.0 c.name_end-e.ensures c.if-e-i.false in record {
      result_value = λ ts ps l q.
          sym (token_got a.long a.s.now ts ps a.i _ c.name_end-e.ensures r.0 c.if-long-e.false (omega (arith, l, c.if-k-ge-GRPCNT.false))
          (c.is_seen.ensures ∙ ap (λ r. is_token a.s.now r a.i (c.name_end-e.result - a.i)) q) c.if-is_seen.false);
      token_in = (r.0, r.1, c.if-k-ge-GRPCNT.false);
    }
