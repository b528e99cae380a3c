use Rattle.std.proofs.Common.{◌≡◌, ◌∙◌, ◌<◌, ◌≤◌, ℕ, List, length, max, min, refl, ap, sym, arith}
use Rattle.std.specs.List.{position_or_len}
use Rattle.iscsi_tasks.proofs.Names.{common_steps, Member, Marks, after_moment, is_ordered_in, chained, IsMarked}
use Rattle.iscsi_tasks.proofs.PlaceLemmas.{enabled_so_far}
use Rattle.iscsi_tasks.proofs.MomentLemmas.{moment_with_heads, moment_without_heads}
use Rattle.iscsi_tasks.proofs.CountLemmas.{first-le, enabled_up_to}
use Rattle.iscsi_tasks.proofs.ChainLemmas.{not_end}
use Rattle.iscsi_tasks.proofs.MarkedLemmas.{within_some}
use Rattle.iscsi_tasks.proofs.linked_queue.enable_free.Goals.{then-marks-gt0-via-then-marks-gt0, then-marks-gt0-via-else-marks-gt0+then-marks-eq-ENDS}
use Rattle.iscsi_tasks.proofs.linked_queue.enable_free.Goals as goal

-- up to where the commands are free, where none is HEAD OF QUEUE
abbrev free_place : List Member → ℕ
free_place list = min (length list) (max 1 (position_or_len is_ordered_in list))

-- where none becomes free, a moment changes nothing
unchanged : (m : Marks) (slots : List ℕ) (list : List Member) (marked : IsMarked m slots list) → m.heads ≤ 0 → free_place list ≤ marked.counts.enabled_to → list ≡ after_moment list
unchanged m slots list marked none over =
    let heads = marked.heads in let counted = marked.counted.heads in
    enabled_so_far list (free_place list) (omega arith) (λ k d l. marked.counted.enabled k d (omega (arith, l, over)))
    ∙ sym (moment_without_heads list (free_place list) marked.counted.order (omega (arith, none, heads, counted)) refl)

-- a dormant command is there
dormant_in : (m : Marks) (slots : List ℕ) (list : List Member) (marked : IsMarked m slots list) → (m.dormant ≡ 0 → ⊥) → marked.counts.enabled_to < length slots
dormant_in m slots list marked some = within_some slots marked.counts.enabled_to m.dormant marked.dormant some

pub returns-then-marks-gt0-clause-state : goal.returns-then-marks-gt0-clause-state
returns-then-marks-gt0-clause-state c =
    let slots = c.args.chain.now.slots in let list = c.args.chain.now.members in
    let m = c.requires in
    let heads = m.heads in let counted = m.counted.heads in
    ap (λ ms. chained slots ms c.args.chain.now.room) (elim c.then-marks-gt0.branch [
      | then-marks-gt0-via-then-marks-gt0 w ↦ let some = w.if-marks-gt0.true in
          sym (moment_with_heads list m.counted.order (omega (arith, some, heads, counted)) m.counted.heads_enabled)
      | then-marks-gt0-via-else-marks-gt0+then-marks-eq-ENDS w ↦
          unchanged c.args.marks.now slots list m w.if-marks-gt0.false (grind (arith, common_steps, not_end m.apart m.counts.enabled_to, m.dormant, w.if-marks-eq-ENDS.true))
    ])

pub returns-then-not-is_before-clause-state : goal.returns-then-not-is_before-clause-state
returns-then-not-is_before-clause-state c =
    grind (arith, common_steps, dormant_in, first-le, unchanged c.args.marks.now c.args.chain.now.slots c.args.chain.now.members c.requires)

pub enable-requires : goal.enable-requires
enable-requires c = grind (arith, common_steps, dormant_in, first-le)

-- the chain, once they are enabled
enabled : (c : goal.After-enable) → (c.requires.counts.enabled_to < max 1 (position_or_len is_ordered_in c.args.chain.now.members)) × (max 1 (position_or_len is_ordered_in c.args.chain.now.members) ≤ length c.args.chain.now.members)
    × (c.enable.new.chain ≡ chained c.args.chain.now.slots (enabled_up_to (max 1 (position_or_len is_ordered_in c.args.chain.now.members)) c.args.chain.now.members) c.args.chain.now.room)
enabled c = grind (arith, common_steps, dormant_in, first-le)

pub returns-clause-state : goal.returns-clause-state
returns-clause-state c = grind (arith, common_steps, enabled, moment_without_heads)

pub returns-clause-marked : goal.returns-clause-marked
returns-clause-marked c = grind (arith, common_steps, enabled)
