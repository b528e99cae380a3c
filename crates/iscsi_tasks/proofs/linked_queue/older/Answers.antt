use Rattle.std.proofs.Common.{◌≡◌, ◌∙◌, ℕ, ◌<◌, ◌≤◌, List, length, get_or, min, ap, sym, arith, ⊎_elim}
use Rattle.std.proofs.lemmas.Bool.{cases_lt}
use Rattle.std.proofs.lemmas.List.{get_or_past}
use Rattle.iscsi_tasks.proofs.Names.{common_steps, times, AreApart}
use Rattle.iscsi_tasks.proofs.linked_queue.older.Goals as goal

-- a slot that is there stands at a place
there_at : (slots : List ℕ) (j slot : ℕ) → AreApart slots → 1 ≤ times slot slots → slot ≡ get_or slots j 0 → j < length slots
there_at slots j slot apart there is = grind (arith, common_steps, get_or_past)

pub returns-then-is_before : goal.returns-then-is_before
returns-then-is_before c j k one other = grind (arith, common_steps, there_at)

pub returns-else-is_before : goal.returns-else-is_before
returns-else-is_before c j k one other =
    let slots = c.args.chain.now.slots in
    let j_in = there_at slots j c.args.one c.requires.apart c.requires.there one in
    ⊎_elim
    (λ k_in. let down = c.is_before.ensures.no j k j_in (omega (arith, k_in)) one other c.if-is_before.false in
    other ∙ ap (λ n. get_or slots n 0) (let e : k ≡ min j k = omega (arith, down) in e))
    (λ past.
    let end = other ∙ get_or_past slots k 0 past ∙ sym (get_or_past slots (length slots) 0 (omega arith)) in
    let down = c.is_before.ensures.no j (length slots) j_in (omega arith) one end c.if-is_before.false in
    absurd (omega (arith, down, j_in)))
    (cases_lt k (length slots))
