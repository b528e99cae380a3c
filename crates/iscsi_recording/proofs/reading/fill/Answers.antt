use Rattle.std.proofs.Common.{◌≡◌, ◌≤◌, ℕ, false, Bool, ap, ◌∙◌, [], length, take, length-take, rules, arith}
use Rattle.std.specs.Prelude.{◌||◌}
use Rattle.std.proofs.lemmas.Result.{err_from_is_err_and}
use Rattle.iscsi_recording.proofs.LineLemmas.{not_read, not_write, not_settings}
use Rattle.iscsi_recording.proofs.OrderLemmas.{reads_more, read_in_order, fault_in_order}
use Rattle.iscsi_recording.specs.declared.fault.ReplayFault.TheVariants.{Read}
use Rattle.iscsi_recording.proofs.reading.fill.Goals as goal

pub returns-in_err-take_chunk-in-Ok-clause-failed : goal.returns-in_err-take_chunk-in-Ok-clause-failed
returns-in_err-take_chunk-in-Ok-clause-failed g c =
    let p = err_from_is_err_and c.from_residual.result c.from_residual.ensures.1 in (
      λ h. let is : c.in_err-take_chunk-in-Ok.field-0.0 ≡ Read = cc in absurd (not_read _ _ (c.in_err-take_chunk-in-Ok.ensures.err []) is),
      λ h. let fresh : g.R.Source.has_failed c.read.new.self ≡ false =
          c.in-Ok.ensures.failure ∙ ap (λ (b : Bool). b || false) c.chunks.invariant.fresh in absurd (cc),
    )

pub returns-in_err-take_chunk-in-Ok-clause-kinds : goal.returns-in_err-take_chunk-in-Ok-clause-kinds
returns-in_err-take_chunk-in-Ok-clause-kinds g c =
    let p = err_from_is_err_and c.from_residual.result c.from_residual.ensures.1 in
    let due = c.in_err-take_chunk-in-Ok.ensures.err [] in
    rw (p.1, p.2) (λ is. not_write _ _ due is, λ is. not_settings _ _ due is)

pub chunks-preserved : goal.chunks-preserved
chunks-preserved g c = record {
  ready = c.in_ok-take_chunk-in-Ok.ensures.ready;
  fresh = search rules;
  read = reads_more _ _ _ _ _ _ _ c.chunks.invariant.read c.in-Ok.ensures.bytes.0 c.in_ok-take_chunk-in-Ok.ensures.ok;
}

pub returns-in_err-take_chunk-in-Ok-clause-order : goal.returns-in_err-take_chunk-in-Ok-clause-order
returns-in_err-take_chunk-in-Ok-clause-order g c =
    let p = err_from_is_err_and c.from_residual.result c.from_residual.ensures.1 in
    let few : length (take c.in-Ok.n c.read.new.buf) ≤ 65536 = omega (arith, length-take {A = ℕ}) in
    rw (p.1, p.2) (fault_in_order _ _ _ _ _ _ _ c.chunks.invariant.ready c.chunks.invariant.read c.in-Ok.ensures.bytes.0 few c.in_err-take_chunk-in-Ok.ensures.err)

pub returns-in-Err-clause-order : goal.returns-in-Err-clause-order
returns-in-Err-clause-order g c =
    read_in_order _ _ _ _ _ c.chunks.invariant.ready c.chunks.invariant.read c.in-Err.ensures.bytes
