use Rattle.std.proofs.Common.{ℕ, ◌+◌, List, ◌++◌, ap, ◌∙◌, subst, arith, drop}
use Rattle.std.proofs.lemmas.Result.{err_from_is_err_and, IfErr-weaker, on_ok_weaker}
use Rattle.std.proofs.lemmas.List.{take_rest}
use Rattle.iscsi_recording.specs.Recorded.{view, Fails}
use Rattle.iscsi_recording.specs.Reading.{left_of}
use Rattle.iscsi_recording.proofs.LineLemmas.{no_end-take, no_end-all, split_at_end, fails_open}
use Rattle.iscsi_recording.proofs.reading.Reading.take_chunk.Goals as goal

pub keep-requires-clause-one : goal.keep-requires-clause-one
keep-requires-clause-one c = no_end-all c.args.chunk.now c.in_default.ensures

pub returns-in_default-clause-err : goal.returns-in_default-clause-err
returns-in_default-clause-err c =
    let w = c.args.self.now in
    IfErr-weaker c.keep.result _ _ (λ e due rest.
    fails_open e w.line (view w.so_far) w.pending.items c.args.chunk.now rest due.0 c.requires.one (no_end-all c.args.chunk.now c.in_default.ensures) due.1) c.keep.ensures.err

pub end_line-requires-clause-one : goal.end_line-requires-clause-one
end_line-requires-clause-one c =
    no_end-take c.args.chunk.now c.in-Some.at (let high = c.in-Some.ensures.0.high in omega arith) c.in-Some.ensures.0.before

pub returns-in_err-end_line-clause-err : goal.returns-in_err-end_line-clause-err
returns-in_err-end_line-clause-err c =
    let p = err_from_is_err_and c.from_residual.result c.from_residual.ensures.1 in
    let found = c.in-Some.ensures in
    let chunk = c.args.chunk.now in
    rw (p.1, p.2) (λ rest. subst (Fails c.in_err-end_line.field-0.0) (ap (left_of c.args.self.now) (split_at_end chunk c.in-Some.at rest found.0.high found.1))
    (c.in_err-end_line.ensures.err (drop (c.in-Some.at + 1) chunk ++ rest)))

pub returns-clause-ok : goal.returns-clause-ok
returns-clause-ok c =
    let found = c.in-Some.ensures in
    let chunk = c.args.chunk.now in
    on_ok_weaker c.take_lines-2.result (λ read rest. read rest ∙ ap (λ (l : List ℕ). left_of c.end_line.new.self (l ++ rest)) (take_rest chunk (c.in-Some.at + 1)) ∙ c.in_ok-end_line.ensures.ok (drop (c.in-Some.at + 1) chunk ++ rest)
    ∙ ap (left_of c.args.self.now) (split_at_end chunk c.in-Some.at rest found.0.high found.1)) c.take_lines-2.ensures.ok

pub returns-clause-err : goal.returns-clause-err
returns-clause-err c =
    let found = c.in-Some.ensures in
    let chunk = c.args.chunk.now in
    IfErr-weaker c.take_lines-2.result _ _ (λ e due rest. subst (Fails e) (ap (λ (l : List ℕ). left_of c.end_line.new.self (l ++ rest)) (take_rest chunk (c.in-Some.at + 1)) ∙ c.in_ok-end_line.ensures.ok (drop (c.in-Some.at + 1) chunk ++ rest)
    ∙ ap (left_of c.args.self.now) (split_at_end chunk c.in-Some.at rest found.0.high found.1)) (due rest)) c.take_lines-2.ensures.err
