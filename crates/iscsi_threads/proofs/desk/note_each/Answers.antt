use Rattle.std.proofs.Common.{◌≡◌, ◌+◌, ◌<◌, List, ◌++◌, ◌∷◌, [], ◌∙◌, ap, sym, subst, rules, arith, length, take, drop, get_or, append-nil, append_assoc}
use Rattle.std.proofs.lemmas.List.{take_more, drop_more}
use Rattle.iscsi_rules.specs.declared.effect.Effect.{Effect}
use Rattle.iscsi_rules.specs.declared.effect.Effect.TheVariants.{Deliver}
use Rattle.iscsi_threads.specs.declared.job.Job.{Job}
use Rattle.iscsi_threads.specs.rules.Desks.{Known, seen, listed, job_at, jobs_from, known_after, EnterAbove}
use Rattle.iscsi_threads.proofs.DeskLemmas.{known_after-append, jobs_from-append, rest_above}
use Rattle.iscsi_threads.proofs.desk.note_each.Goals as goal
use Rattle.iscsi_threads.proofs.desk.note_each.Goals.{in-Some, in_default}

pub loop-effect-preserved : goal.loop-effect-preserved
loop-effect-preserved c =
    let v = c.loop-effect.invariant in let xs = c.args.effects.now in let i = c.loop-effect.effect-index in
    let k0 = seen c.args.desk.now in let k = seen c.loop-effect.desk in
    let d : Effect = Deliver (record { conn = 0; bytes = [] }) in
    let e = get_or xs i d in
    let lt : i < length xs = search rules in
    let more = take_more xs i d lt in
    let knows : seen c.note.new.self ≡ known_after k0 (take (i + 1) xs) =
    c.note.ensures.seen ∙ ap (λ (x : Known). known_after x (e ∷ [])) v.known
    ∙ sym (ap (known_after k0) more ∙ known_after-append k0 (take i xs) (e ∷ []))
    in
    let jobs : jobs_from k0 (take (i + 1) xs) ≡ jobs_from k0 (take i xs) ++ listed (job_at k e) =
    ap (jobs_from k0) more ∙ jobs_from-append k0 (take i xs) (e ∷ [])
    ∙ ap (λ (l : List Job). jobs_from k0 (take i xs) ++ l) (append-nil _ ∙ ap (λ (x : Known). listed (job_at x e)) (sym v.known))
    in
    let numbered : EnterAbove (seen c.note.new.self) (drop (i + 1) xs) =
    subst (λ (x : Known). EnterAbove x (drop (i + 1) xs)) (sym c.note.ensures.seen) (rest_above k e (drop (i + 1) xs) (subst (EnterAbove k) (drop_more xs i d lt) v.numbered))
    in
    let len = c.note.ensures.len in let cap = c.note.ensures.capacity in
    elim c.match-note.branch [
      | in-Some w ↦ let p = w.push_back_reserved.ensures in rw w.fresh-is record {
        jobs = p.items ∙ ap (λ (l : List Job). l ++ w.in-Some.job ∷ []) v.jobs ∙ append_assoc c.args.fresh.now.items (jobs_from k0 (take i xs)) (w.in-Some.job ∷ [])
            ∙ ap (λ (l : List Job). c.args.fresh.now.items ++ l) (sym (jobs ∙ ap (λ y. jobs_from k0 (take i xs) ++ listed y) (sym c.note.ensures.job ∙ w.in-Some.is)));
        known = knows;
        numbered = numbered;
        dormant = omega (arith, v.dormant, lt, len, cap);
        room = omega (arith, v.room, lt, p.len, p.capacity);
      }
      | in_default w ↦ rw w.fresh-is record {
        jobs = v.jobs ∙ ap (λ (l : List Job). c.args.fresh.now.items ++ l) (sym (jobs ∙ ap (λ y. jobs_from k0 (take i xs) ++ listed y) (sym c.note.ensures.job ∙ w.in_default.is) ∙ append-nil _));
        known = knows;
        numbered = numbered;
        dormant = omega (arith, v.dormant, lt, len, cap);
        room = omega (arith, v.room, lt);
      }
    ]
