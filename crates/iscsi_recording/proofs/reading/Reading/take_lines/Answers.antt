use Rattle.std.proofs.Common.{◌≡◌, ℕ, ◌+◌, List, ◌∷◌, ◌++◌, ap, sym, ◌∙◌, subst, arith, take, drop, length-take, length-drop}
use Rattle.std.proofs.lemmas.Result.{err_from_is_err_and, IfErr-weaker, on_ok_weaker}
use Rattle.std.proofs.lemmas.List.{take_rest}
use Rattle.iscsi_recording.specs.Recorded.{view, Fails}
use Rattle.iscsi_recording.specs.Reading.{IsReading, left_of, weight, HasTakenCommon}
use Rattle.iscsi_recording.specs.declared.reading.Reading.{Reading}
use Rattle.iscsi_recording.proofs.CommonLemmas.{kept_reads}
use Rattle.iscsi_recording.proofs.LineLemmas.{no_end-take, no_end-all, split_at_end, fails_open}
use Rattle.iscsi_recording.proofs.reading.Reading.take_lines.Goals as goal

pub lines-preserved-then-size-gt0 : goal.lines-preserved-then-size-gt0
lines-preserved-then-size-gt0 c =
    let left = c.lines.left.now in
    let new = c.take_common-size.new.self in
    let size = c.take_common-size.result in
    let taken : HasTakenCommon c.lines.self new left size = c.take_common-size.ensures.taken c.if-size-gt0.true in
    let long = taken.long in
    let took = taken.more in
    let more = c.lines.invariant.more in
    record {
      ready = taken.ready;
      fresh = taken.fresh;
      read = λ rest. ap (λ (l : List ℕ). left_of new (l ++ rest)) (take_rest left size) ∙ taken.read rest ∙ c.lines.invariant.read rest;
      more = omega (arith, took, more, long, length-take {A = ℕ}, length-drop {A = ℕ});
    }

pub end_line-requires-clause-one : goal.end_line-requires-clause-one
end_line-requires-clause-one c =
    no_end-take c.lines.left.now c.in-Some.at (let high = c.in-Some.ensures.0.high in omega arith) c.in-Some.ensures.0.before

pub returns-in_err-end_line-clause-err : goal.returns-in_err-end_line-clause-err
returns-in_err-end_line-clause-err c =
    let p = err_from_is_err_and c.from_residual.result c.from_residual.ensures.1 in
    let found = c.in-Some.ensures in
    let left = c.lines.left.now in
    let same : c.take_common-size.new.self ≡ c.lines.self = c.take_common-size.ensures.not (omega arith) in
    rw (p.1, p.2) (λ rest. subst (Fails c.in_err-end_line.field-0.0)
    (ap (λ (w : Reading). left_of w (take c.in-Some.at left ++ 10 ∷ (drop (c.in-Some.at + 1) left ++ rest))) same ∙ ap (left_of c.lines.self) (split_at_end left c.in-Some.at rest found.0.high found.1) ∙ c.lines.invariant.read rest)
    (c.in_err-end_line.ensures.err (drop (c.in-Some.at + 1) left ++ rest)))

pub lines-preserved : goal.lines-preserved
lines-preserved c =
    let found = c.in-Some.ensures in
    let left = c.lines.left.now in
    let at = c.in-Some.at in
    let high = found.0.high in
    let same : c.take_common-size.new.self ≡ c.lines.self = c.take_common-size.ensures.not (omega arith) in
    let equal : weight c.take_common-size.new.self ≡ weight c.lines.self = ap weight same in
    let took = c.in_ok-end_line.ensures.more in
    let more = c.lines.invariant.more in
    record {
      ready = c.in_ok-end_line.ensures.ready;
      fresh = c.in_ok-end_line.ensures.fresh;
      read = λ rest.
          ap (λ (l : List ℕ). left_of c.end_line.new.self (l ++ rest)) (take_rest left (at + 1))
          ∙ c.in_ok-end_line.ensures.ok (drop (at + 1) left ++ rest)
          ∙ ap (λ (w : Reading). left_of w (take at left ++ 10 ∷ (drop (at + 1) left ++ rest))) same
          ∙ ap (left_of c.lines.self) (split_at_end left at rest high found.1)
          ∙ c.lines.invariant.read rest;
      more = omega (arith, took, more, high, equal, length-take {A = ℕ}, length-drop {A = ℕ});
    }

pub keep-requires-clause-one : goal.keep-requires-clause-one
keep-requires-clause-one c = no_end-all c.lines.left.now c.in_default.ensures

pub returns-clause-ok : goal.returns-clause-ok
returns-clause-ok c =
    let same : c.take_common-size.new.self ≡ c.lines.self = c.take_common-size.ensures.not (omega arith) in
    on_ok_weaker c.keep.result (λ pending. kept_reads c.keep.new.self c.take_common-size.new.self c.lines.self c.lines.left.now c.args.chunk.now
    (left_of c.args.self.now) same c.lines.invariant.read c.keep.ensures.line c.keep.ensures.so_far pending) c.keep.ensures.ok

pub returns-clause-err : goal.returns-clause-err
returns-clause-err c =
    let w = c.take_common-size.new.self in
    let left = c.lines.left.now in
    let same : w ≡ c.lines.self = c.take_common-size.ensures.not (omega arith) in
    let ready : IsReading w = subst IsReading (sym same) c.lines.invariant.ready in
    IfErr-weaker c.keep.result _ _ (λ e due rest. subst (Fails e) (ap (λ (v : Reading). left_of v (left ++ rest)) same ∙ c.lines.invariant.read rest)
    (fails_open e w.line (view w.so_far) w.pending.items left rest due.0 ready.one (no_end-all left c.in_default.ensures) due.1)) c.keep.ensures.err
