-- What is left in rings, and the jobs of a unit, where some weren't given to it yet.
use Rattle.std.specs.Prelude.{◌≡◌, ◌≢◌, ℕ, ◌<◌, ◌≤◌, Bool, true, false, cond, List, [], ◌∷◌, ◌++◌, length, map, nat_eq, refl, Vec}
use Rattle.std.specs.List.{range_with_len}
use Rattle.std.proofs.Common.{ap, sym, ◌∙◌, arith, get_or, set, append_assoc, append-nil, length-set}
use Rattle.std.proofs.lemmas.Bool.Decides.{nat_tests}
use Rattle.std.proofs.lemmas.List.{get_or-map, get_or-set_same, get_or-set_other, length-map}
use Rattle.std.specs.declared.alloc.Global.{Global}
use mathlib.Core.List.{IsPrefix}
use Rattle.rtrb.specs.Ring.{IsPair}
use Rattle.rtrb.specs.declared.producer.Producer.{Producer}
use Rattle.rtrb.specs.declared.consumer.Consumer.{Consumer}
use Rattle.iscsi_threads.specs.rules.Rings.{Ring, producer_ring, consumer_ring}
use Rattle.iscsi_threads.specs.declared.job.Job.{Job}
use Rattle.iscsi_threads.specs.declared.outlet.Outlet.{Outlet}
use Rattle.iscsi_threads.specs.rules.Outlets.{given}
use Rattle.iscsi_threads.specs.promises.Outcomes.{ticket_of}
use Rattle.iscsi_threads.specs.private.Ends.{grow, put_jobs}
use Rattle.iscsi_threads.specs.rules.Journal.{jobs_of}
use Rattle.iscsi_threads.proofs.Lists.{get_same}
use Rattle.iscsi_threads.proofs.Journals.{zero_range_get, range_length}

-- each list has its own jobs after those that it had
pub put_jobs_at : (js : List Job) (lists : List (List Job)) (u : ℕ) → u < length lists → get_or (put_jobs js lists) u [] ≡ get_or lists u [] ++ jobs_of u js
put_jobs_at [] lists u lt = sym (append-nil (get_or lists u []))
put_jobs_at (j ∷ js) lists u lt =
    let len : length (grow lists j.unit j) ≡ length lists = length-set lists j.unit (get_or lists j.unit [] ++ j ∷ []) in
    put_jobs_at js (grow lists j.unit j) u (omega arith) ∙ first (nat_eq j.unit u) refl
  where
    first : (b : Bool) → nat_eq j.unit u ≡ b → get_or (grow lists j.unit j) u [] ++ jobs_of u js ≡ get_or lists u [] ++ cond b (j ∷ jobs_of u js) (jobs_of u js)
    first true is =
        let same : j.unit ≡ u = grind (arith, nat_tests) in
        let low : j.unit < length lists = omega arith in
        let here : get_or (grow lists j.unit j) u [] ≡ get_or lists u [] ++ j ∷ [] =
        ap (λ (k : ℕ). get_or (grow lists j.unit j) k []) (sym same) ∙ get_or-set_same lists j.unit _ [] low ∙ ap (λ (k : ℕ). get_or lists k [] ++ j ∷ []) same
        in
        ap (λ (l : List Job). l ++ jobs_of u js) here ∙ append_assoc (get_or lists u []) (j ∷ []) (jobs_of u js)
    first false is =
        let other : u ≢ j.unit = grind (arith, nat_tests) in
        ap (λ (l : List Job). l ++ jobs_of u js) (get_or-set_other lists j.unit u _ [] other)

-- those that were given to a unit, and then the unit's own of the others
pub jobs_at : (n : ℕ) (jobs : ℕ → List Job) (outlets : List Outlet) (fresh : List Job) (u : ℕ) (o : Outlet)
    → length outlets ≡ n → u < n → put_jobs fresh (map given outlets) ≡ map jobs (range_with_len 0 n) → jobs u ≡ given (get_or outlets u o) ++ jobs_of u fresh
jobs_at n jobs outlets fresh u o len lt all =
    let size = range_length 0 n in
    let mapped = length-map outlets given in
    ap jobs (sym (zero_range_get n u lt))
    ∙ sym (get_or-map jobs (range_with_len 0 n) u 0 [] (omega arith))
    ∙ ap (λ (l : List (List Job)). get_or l u []) (sym all)
    ∙ put_jobs_at fresh (map given outlets) u (omega arith)
    ∙ ap (λ (l : List Job). l ++ jobs_of u fresh) (get_or-map given outlets u o [] (omega arith))

pub prefix_append : {X : Type 0} (xs ys zs : List X) → IsPrefix xs ys → IsPrefix xs (ys ++ zs)
prefix_append {X} xs ys zs p = (p.0 ++ zs, sym (append_assoc xs p.0 zs) ∙ ap (λ (l : List X). l ++ zs) p.1)

-- the ends of one ring are a pair
pub pair_of : {T A P : Type 0} (p : Producer T A P) (c : Consumer T A P) → producer_ring p ≡ consumer_ring c → IsPair p c
pair_of {T} {A} {P} p c same = (
  sym (ap (λ (r : Ring A). r.0) same),
  sym (ap (λ (r : Ring A). r.1.0) same),
  sym (ap (λ (r : Ring A). r.1.1.0) same),
  sym (ap (λ (r : Ring A). r.1.1.1) same),
)

-- the ticket of a job stands with its unit's, and the job isn't to come any more
pub noted_next : (untaken : List (Vec ℕ Global)) (unit : ℕ) (job : Job) (js : List Job) (x t : Vec ℕ Global) (u : ℕ) (w : Vec ℕ Global)
    → unit ≡ job.unit → unit < length untaken → x ≡ get_or untaken unit x → t.items ≡ x.items ++ job.ticket ∷ []
    → (get_or (set untaken unit t) u w).items ++ map ticket_of (jobs_of u js) ≡ (get_or untaken u w).items ++ map ticket_of (jobs_of u (job ∷ js))
noted_next untaken unit job js x t u w its lt was more = here (nat_eq job.unit u) refl
  where
    here : (b : Bool) → nat_eq job.unit u ≡ b
        → (get_or (set untaken unit t) u w).items ++ map ticket_of (jobs_of u js) ≡ (get_or untaken u w).items ++ map ticket_of (cond b (job ∷ jobs_of u js) (jobs_of u js))
    here true is =
        let same : unit ≡ u = grind (arith, nat_tests) in
        let tickets = map ticket_of (jobs_of u js) in
        let new : get_or (set untaken unit t) u w ≡ t = ap (λ (k : ℕ). get_or (set untaken unit t) k w) (sym same) ∙ get_or-set_same untaken unit t w lt in
        let old : x ≡ get_or untaken u w = was ∙ get_same untaken unit x w lt ∙ ap (λ (k : ℕ). get_or untaken k w) same in
        ap (λ (l : Vec ℕ Global). l.items ++ tickets) new
        ∙ ap (λ (l : List ℕ). l ++ tickets) (more ∙ ap (λ (l : Vec ℕ Global). l.items ++ job.ticket ∷ []) old)
        ∙ append_assoc (get_or untaken u w).items (job.ticket ∷ []) tickets
    here false is =
        let other : u ≢ unit = grind (arith, nat_tests) in
        ap (λ (l : Vec ℕ Global). l.items ++ map ticket_of (jobs_of u js)) (get_or-set_other untaken unit u t w other)

-- the job of a unit that isn't there is no unit's
pub not_of : (job : Job) (js : List Job) (u n : ℕ) → u < n → n ≤ job.unit → jobs_of u js ≡ jobs_of u (job ∷ js)
not_of job js u n lt past =
    let other : nat_eq job.unit u ≡ false = grind (arith, nat_tests) in
    sym (ap (λ b. cond b (job ∷ jobs_of u js) (jobs_of u js)) other)
