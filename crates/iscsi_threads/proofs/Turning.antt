-- What a turn that took an event leaves.
use Rattle.std.specs.Prelude.{◌≡◌, ℕ, zero, suc, ◌+◌, ◌<◌, ◌≤◌, ◌==◌, ◌||◌, not, Bool, true, false, cond, nat_lt, List, [], ◌∷◌, ◌++◌, length, drop, Option, Some, None, Result, Err, refl}
use Rattle.std.specs.List.{range_with_len}
use Rattle.std.proofs.Common.{ap, sym, ◌∙◌, arith, get_or, subst, append-nil, eq-eqb}
use Rattle.std.proofs.lemmas.Bool.Decides.{nat_tests}
use Rattle.std.proofs.lemmas.List.{drop_at, length-append}
use Rattle.std.proofs.lemmas.List.Concat.{flat_map-append}
use Rattle.iscsi_rules.specs.declared.event.Event.{Event}
use Rattle.iscsi_rules.specs.declared.event.Event.TheVariants.{Arrive, Done}
use Rattle.iscsi_rules.specs.declared.effect.Effect.{Effect}
use Rattle.iscsi_rules.specs.declared.entry.Entry.{Entry}
use Rattle.iscsi_session.specs.declared.fault.SessionFault.{SessionFault}
use Rattle.iscsi_session.specs.declared.fault.SessionFault.TheVariants.{NoMemory, Exhausted, UnknownConnection}
use Rattle.iscsi_rules.specs.rules.Settings.{Setting, is_known}
use Rattle.iscsi_rules.specs.rules.Run.{run_of, next_entry}
use Rattle.iscsi_rules.specs.promises.Enabling.{effects_in}
use Rattle.iscsi_rules.specs.rules.Agenda.{belongs}
use Rattle.iscsi_session.specs.promises.Refusals.{refusal_of, RefusesAs}
use Rattle.iscsi_rules.proofs.traces.RunLemmas.{run_of-push}
use Rattle.iscsi_threads.specs.declared.job.Job.{Job}
use Rattle.iscsi_threads.specs.rules.Ports.{Answer}
use Rattle.iscsi_threads.specs.rules.Desks.{Known, nothing, jobs_from, known_after}
use Rattle.iscsi_threads.specs.private.Ends.{put_jobs, Polled}
use Rattle.iscsi_threads.specs.rules.Journal.{cids_in, cids_of, jobs_of, all_jobs}
use Rattle.iscsi_threads.specs.rules.Jobs.{jobs}
use Rattle.iscsi_threads.proofs.JobLaws.{jobs_as_noted}
use Rattle.iscsi_threads.proofs.Lists.{put_jobs_append}
use Rattle.iscsi_threads.proofs.DeskLemmas.{known_after-append, jobs_from-append}
use Rattle.iscsi_threads.proofs.Journals.{map_same, put_every, jobs_of_append}

-- ---- the event is taken

or_right : (a : Bool) → a || true ≡ true
or_right true = refl
or_right false = refl

pub known_at : (conns : List (ℕ × ℕ)) (f c : ℕ) → f < length (cids_in conns) → c ≡ get_or (cids_in conns) f 0 → is_known c conns ≡ true
known_at [] f c lt is = absurd (omega arith)
known_at (x ∷ conns) zero c lt is = ap (λ b. b || is_known c conns) (eq-eqb x.0 c (sym is))
known_at (x ∷ conns) (suc f) c lt is = ap (λ b. (x.0 == c) || b) (known_at conns f c (omega arith) is) ∙ or_right (x.0 == c)

pub belongs_polled : (o : Setting) (hs hs' : List (List (List ℕ))) (ds ds' : List (List Answer)) (e : Event) (f : ℕ) → Polled (cids_of o) hs hs' ds ds' e f → belongs o e ≡ true
belongs_polled o hs hs' ds ds' (Arrive c x) f polled = known_at o.conns f c polled.0 polled.1
belongs_polled o hs hs' ds ds' (Done t s) f polled = refl

pub taken_next : (o : Setting) (h : List Event) (e : Event) → belongs o e ≡ true → length h < o.events → refusal_of o h e ≡ None
taken_next o h e belongs few =
    let lt : nat_lt (length h) o.events ≡ true = grind (arith, nat_tests) in
    ap (λ b. cond (not b) (Some UnknownConnection) (cond (nat_lt (length h) o.events) None (Some Exhausted))) belongs ∙ ap (λ b. cond b None (Some Exhausted)) lt

pub only_memory : {A : Type 0} (x : Option SessionFault) (r : Result A SessionFault) (fault : SessionFault) → x ≡ None → RefusesAs x r → r ≡ Err fault → r ≡ Err NoMemory
only_memory {A} x r fault none refuses is =
    let here : RefusesAs {A = A} None (Err fault) = subst (λ y. RefusesAs {A = A} y (Err fault)) none (subst (λ s. RefusesAs {A = A} x s) is refuses) in
    is ∙ ap (λ (f : SessionFault). Err f) here

-- ---- the effects of the event

pub cut_after : {A : Type 0} (xs ys zs : List A) (k : ℕ) → zs ≡ xs ++ ys → k ≡ length xs → drop k zs ≡ ys
cut_after {A} xs ys zs k is len = ap (λ (l : List A). drop k l) is ∙ drop_at xs ys k (sym len)

pub cut_within : {A : Type 0} (xs ys zs : List A) (k : ℕ) → zs ≡ xs ++ ys → k ≡ length xs → k ≤ length zs
cut_within {A} xs ys zs k is len = let size : length zs ≡ length xs + length ys = ap length is ∙ length-append xs ys in omega arith

pub effects_run : (o : Setting) (j : List Event) (e : Event) → effects_in (run_of o (j ++ e ∷ [])) ≡ effects_in (run_of o j) ++ (next_entry o j e).effects
effects_run o j e =
    ap effects_in (run_of-push o j e) ∙ flat_map-append (λ (x : Entry). x.effects) (run_of o j) (next_entry o j e ∷ [])
    ∙ ap (λ (l : List Effect). effects_in (run_of o j) ++ l) (append-nil (next_entry o j e).effects)

pub known_next : (o : Setting) (j : List Event) (e : Event) (k k' : Known) (es : List Effect)
    → k ≡ known_after nothing (effects_in (run_of o j)) → es ≡ (next_entry o j e).effects → k' ≡ known_after k es → k' ≡ known_after nothing (effects_in (run_of o (j ++ e ∷ [])))
known_next o j e k k' es was effects is =
    is ∙ ap (known_after k) effects ∙ ap (λ (x : Known). known_after x (next_entry o j e).effects) was
    ∙ sym (ap (known_after nothing) (effects_run o j e) ∙ known_after-append nothing (effects_in (run_of o j)) (next_entry o j e).effects)

pub jobs_next : (o : Setting) (j : List Event) (e : Event) (u : ℕ)
    → jobs u (run_of o (j ++ e ∷ [])) ≡ jobs u (run_of o j) ++ jobs_of u (jobs_from (known_after nothing (effects_in (run_of o j))) (next_entry o j e).effects)
jobs_next o j e u =
    let all = effects_in (run_of o j) in let es = (next_entry o j e).effects in
    jobs_as_noted o (j ++ e ∷ []) u ∙ ap (λ (l : List Effect). jobs_of u (jobs_from nothing l)) (effects_run o j e)
    ∙ ap (jobs_of u) (jobs_from-append nothing all es)
    ∙ jobs_of_append u (jobs_from nothing all) (jobs_from (known_after nothing all) es)
    ∙ ap (λ (l : List Job). l ++ jobs_of u (jobs_from (known_after nothing all) es)) (sym (jobs_as_noted o j u))

pub jobs_after : (n : ℕ) (o : Setting) (j : List Event) (e : Event) (fresh fresh' : List Job) (js js' : List (List Job)) (k : Known) (es : List Effect)
    → put_jobs fresh js ≡ all_jobs n (run_of o j) → k ≡ known_after nothing (effects_in (run_of o j)) → es ≡ (next_entry o j e).effects
    → js' ≡ js → fresh' ≡ fresh ++ jobs_from k es → put_jobs fresh' js' ≡ all_jobs n (run_of o (j ++ e ∷ []))
jobs_after n o j e fresh fresh' js js' k es was known effects same more =
    let new = jobs_from (known_after nothing (effects_in (run_of o j))) (next_entry o j e).effects in
    let news : jobs_from k es ≡ new = ap (jobs_from k) effects ∙ ap (λ (x : Known). jobs_from x (next_entry o j e).effects) known in
    ap (put_jobs fresh') same ∙ ap (λ (l : List Job). put_jobs l js) (more ∙ ap (λ (l : List Job). fresh ++ l) news)
    ∙ put_jobs_append fresh new js ∙ ap (put_jobs new) was
    ∙ put_every n (λ u. jobs u (run_of o j)) new
    ∙ map_same _ _ (range_with_len 0 n) (λ i lt. sym (jobs_next o j e (get_or (range_with_len 0 n) i 0)))
