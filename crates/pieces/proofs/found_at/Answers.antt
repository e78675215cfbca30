-- `found_at` meets its contract: by the token that stands there.
use lib.ListN.{length}
use Rattle.std.proofs.Common.{Ok, Err}
use Rattle.text.specs.Words.{passed_on}
use Rattle.document_text.specs.Ways.{token_start, token_end, token_skipped}
use Rattle.pieces.specs.Finds.{malformed}
use Rattle.pieces.specs.Pieces.{start_tag_asked, end_tag_asked, list_held, refused_as, finds_start, finds_misgiven, finds_end, finds_undeclared_start, finds_undeclared_end, onward_start, onward_end, onward_skipped, onward_refused}
use Rattle.pieces.proofs.found_at.Goals as goal

pub returns-in_err-piece : goal.returns-in_err-piece
returns-in_err-piece c = let a = c.args in
    let w = passed_on _ c.from_residual.ensures.1 in record {
      onward = onward_refused (length a.d.now) a.at w;
      finds = λ es i l. refused_as a.t.long a.t.file.now es a.d.now a.at _ w (malformed c.in_err-piece.ensures);
    }

pub tagged-requires : goal.tagged-requires
tagged-requires c = let a = c.args in
    start_tag_asked a.t.long c.requires.1 a.d.now a.at c.requires.2 (token_start (length c.args.d.now) c.piece_at.new.given _ _ c.in_ok-piece.ensures c.in-StartTag.is).1

pub returns-in_err-x-in-StartTag : goal.returns-in_err-x-in-StartTag
returns-in_err-x-in-StartTag c = let a = c.args in
    let w = passed_on _ c.from_residual-in_err-x-in-StartTag.ensures.1 in
    let (ws, e, k) = token_start (length c.args.d.now) c.piece_at.new.given _ _ c.in_ok-piece.ensures c.in-StartTag.is in record {
      onward = onward_refused (length a.d.now) a.at w;
      finds = λ es i l.
          refused_as a.t.long a.t.file.now es a.d.now a.at _ w
          (finds_undeclared_start a.t.long a.t.file.now es a.d.now a.at (c.in_err-x-in-StartTag.ensures.numbered es i) e);
    }

pub held-requires : goal.held-requires
held-requires c = let k = (token_start (length c.args.d.now) c.piece_at.new.given _ _ c.in_ok-piece.ensures c.in-StartTag.is).2 in
    let r = c.in_ok-x-in-StartTag.ensures.ranged in
    (r.0, r.1, k.kept.few, k.inside, c.requires.4, c.requires.3)

pub returns-in_err-held-in-StartTag : goal.returns-in_err-held-in-StartTag
returns-in_err-held-in-StartTag c = let a = c.args in
    let w = passed_on _ c.from_residual-in_err-held-in-StartTag.ensures.1 in
    let (ws, e, k) = token_start (length c.args.d.now) c.piece_at.new.given _ _ c.in_ok-piece.ensures c.in-StartTag.is in record {
      onward = onward_refused (length a.d.now) a.at w;
      finds = λ es i l.
          let q = c.in_ok-x-in-StartTag.ensures.numbered es i in
          let some = c.in_ok-x-in-StartTag.ensures.ranged.0 in
          refused_as a.t.long a.t.file.now es a.d.now a.at _ w
          (finds_misgiven a.t.long a.t.file.now es a.d.now a.at q e some
          (list_held a.t.long a.t.file.now es a.d.now a.at q e some _ _ a.t.lists.now c.piece_at.new.given _ i l k.kept c.held.new.marks (Err c.in_err-held-in-StartTag.field-0.0) c.in_err-held-in-StartTag.ensures));
    }

pub returns-in_ok-held-in-StartTag : goal.returns-in_ok-held-in-StartTag
returns-in_ok-held-in-StartTag c = let a = c.args in
    let (ws, e, k) = token_start (length c.args.d.now) c.piece_at.new.given _ _ c.in_ok-piece.ensures c.in-StartTag.is in record {
      onward = onward_start a.d.now a.at c.requires.2 c.in_ok-x-in-StartTag.ensures.ranged.1 a.t.long e;
      finds = λ es i l.
          let q = c.in_ok-x-in-StartTag.ensures.numbered es i in
          let some = c.in_ok-x-in-StartTag.ensures.ranged.0 in
          let held = list_held a.t.long a.t.file.now es a.d.now a.at q e some _ _ a.t.lists.now c.piece_at.new.given _ i l k.kept c.held.new.marks (Ok tt) c.in_ok-held-in-StartTag.ensures in
          finds_start a.t.long a.t.file.now es a.d.now a.at q e some _ held.0 held.1;
    }

pub tagged-requires-in-EndTag : goal.tagged-requires-in-EndTag
tagged-requires-in-EndTag c = let a = c.args in
    end_tag_asked a.t.long c.requires.1 a.d.now a.at c.requires.2 (token_end (length c.args.d.now) c.piece_at.new.given _ _ c.in_ok-piece.ensures c.in-EndTag.is)

pub returns-in_err-x-in-EndTag : goal.returns-in_err-x-in-EndTag
returns-in_err-x-in-EndTag c = let a = c.args in
    let w = passed_on _ c.from_residual-in_err-x-in-EndTag.ensures.1 in
    let e = token_end (length c.args.d.now) c.piece_at.new.given _ _ c.in_ok-piece.ensures c.in-EndTag.is in record {
      onward = onward_refused (length a.d.now) a.at w;
      finds = λ es i l.
          refused_as a.t.long a.t.file.now es a.d.now a.at _ w
          (finds_undeclared_end a.t.long a.t.file.now es a.d.now a.at (c.in_err-x-in-EndTag.ensures.numbered es i) e);
    }

pub returns-in_ok-x-in-EndTag : goal.returns-in_ok-x-in-EndTag
returns-in_ok-x-in-EndTag c = let a = c.args in
    let e = token_end (length c.args.d.now) c.piece_at.new.given _ _ c.in_ok-piece.ensures c.in-EndTag.is in record {
      onward = onward_end a.d.now a.at c.requires.2 c.in_ok-x-in-EndTag.ensures.ranged.1 a.t.long e;
      finds = λ es i l. finds_end a.t.long a.t.file.now es a.d.now a.at (c.in_ok-x-in-EndTag.ensures.numbered es i) e c.in_ok-x-in-EndTag.ensures.ranged.0;
    }

pub returns-in-Skipped : goal.returns-in-Skipped
returns-in-Skipped c = let a = c.args in
    let e = token_skipped (length a.d.now) c.piece_at.new.given _ _ c.in_ok-piece.ensures c.in-Skipped.is in record {
      onward = onward_skipped a.d.now a.at c.requires.2 a.t.long e;
      finds = λ es i l. e;
    }
