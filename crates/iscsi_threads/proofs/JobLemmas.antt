-- What effects show of jobs: the one that an Enable starts, in the whole list and in what is noted before it.
use Rattle.std.specs.Prelude.{◌≡◌, ℕ, zero, suc, ◌<◌, ◌==◌, ◌&&◌, ◌||◌, nat_eq, not, Bool, true, false, cond, List, [], ◌∷◌, ◌++◌, length, map, filter, filter_map, find, position, Option, Some, None, option_map, is_some, refl}
use Rattle.std.specs.List.{list_any, list_all, remove, cons_option}
use Rattle.std.specs.Option.{option_or}
use Rattle.std.proofs.Common.{ap, sym, ◌∙◌, arith, append_assoc, append-nil, eq-eqb, get_or}
use Rattle.std.proofs.lemmas.Bool.{false≢true, eqb-true, or_parts, and_parts, and_from, not-true, not_from_false}
use Rattle.std.proofs.lemmas.List.Elements.{filter-append}
use Rattle.std.proofs.lemmas.List.Folds.{find-append}
use Rattle.iscsi_wire.specs.declared.request.Request.{Request}
use Rattle.iscsi_tasks.specs.declared.task.Attr.{Attr}
use Rattle.iscsi_rules.specs.declared.effect.Effect.{Effect}
use Rattle.iscsi_rules.specs.declared.effect.Effect.TheVariants.{Deliver, Immediate, Enter, Enable, Leave}
use Rattle.iscsi_rules.specs.promises.Enabling.{is_enable}
use Rattle.iscsi_rules.specs.promises.Lives.{names_ticket, life_of, ends_in, goes_on_in, is_life}
use Rattle.iscsi_rules.proofs.general.PlaceLemmas.{position-cons}
use Rattle.iscsi_threads.specs.declared.job.Job.{Job}
use Rattle.iscsi_threads.specs.rules.Desks.{Known, nothing, is_for, without, job_for, entered, after_effect, job_at, listed, jobs_from, known_after}
use Rattle.iscsi_threads.specs.rules.Journal.{jobs_of}
use Rattle.iscsi_threads.specs.rules.Jobs.{commands_entering, job_started, ticket_enabled, tickets_enabled}
use Rattle.iscsi_threads.proofs.DeskLemmas.{known_after-append}
use Rattle.iscsi_threads.proofs.Journals.{jobs_of_append}

-- ---- a request executes before each Enter

-- before each Enter a request executes, or `last` did
abbrev pub is_asked : Option Request → List Effect → Bool
is_asked last [] = true
is_asked last (Deliver r ∷ es) = is_asked (Some r) es
is_asked last (Immediate r ∷ es) = is_asked (Some r) es
is_asked last (Enter ticket unit attr ∷ es) = is_some last && is_asked last es
is_asked last (e ∷ es) = is_asked last es

-- once one executes, so it is of whatever follows
pub asked-some : (r : Request) (es : List Effect) → is_asked (Some r) es ≡ true
asked-some r [] = refl
asked-some r (Deliver q ∷ es) = asked-some q es
asked-some r (Immediate q ∷ es) = asked-some q es
asked-some r (e ∷ es) = asked-some r es

asked-more : (last : Option Request) (es : List Effect) → is_asked None es ≡ true → is_asked last es ≡ true
asked-more last [] h = refl
asked-more last (Deliver r ∷ es) h = h
asked-more last (Immediate r ∷ es) h = h
asked-more last (Enter ticket unit attr ∷ es) h = absurd (false≢true h)
asked-more last (e ∷ es) h = asked-more last es h

pub asked-append : (last : Option Request) (xs ys : List Effect) → is_asked last xs ≡ true → is_asked None ys ≡ true → is_asked last (xs ++ ys) ≡ true
asked-append last [] ys h k = asked-more last ys k
asked-append last (Deliver r ∷ xs) ys h k = asked-append (Some r) xs ys h k
asked-append last (Immediate r ∷ xs) ys h k = asked-append (Some r) xs ys h k
asked-append last (Enter ticket unit attr ∷ xs) ys h k =
    let parts = and_parts (is_some last) (is_asked last xs) h in and_from (is_some last) (is_asked last (xs ++ ys)) parts.0 (asked-append last xs ys parts.1 k)
asked-append last (e ∷ xs) ys h k = asked-append last xs ys h k

asked-front : (last : Option Request) (xs ys : List Effect) → is_asked last (xs ++ ys) ≡ true → is_asked last xs ≡ true
asked-front last [] ys h = refl
asked-front last (Deliver r ∷ xs) ys h = asked-front (Some r) xs ys h
asked-front last (Immediate r ∷ xs) ys h = asked-front (Some r) xs ys h
asked-front last (Enter ticket unit attr ∷ xs) ys h =
    let parts = and_parts (is_some last) (is_asked last (xs ++ ys)) h in and_from (is_some last) (is_asked last xs) parts.0 (asked-front last xs ys parts.1)
asked-front last (e ∷ xs) ys h = asked-front last xs ys h

-- ---- the job of a ticket, among others

without-cons : (ticket : ℕ) (j : Job) (js : List Job) → without ticket (j ∷ js) ≡ cond (is_for ticket j) js (j ∷ without ticket js)
without-cons ticket j js =
    ap (λ y. let l : List Job = elim y [ Some i ↦ remove (j ∷ js) i | None ↦ j ∷ js ] in l) (position-cons (is_for ticket) j js)
    ∙ elim (is_for ticket j) as (λ b. (let l : List Job = elim (let y : Option ℕ = cond b (Some 0) (option_map suc (position (is_for ticket) js)) in y) [ Some i ↦ remove (j ∷ js) i | None ↦ j ∷ js ] in l) ≡ cond b js (j ∷ without ticket js)) [
      | true ↦ refl
      | false ↦ by_place (position (is_for ticket) js)
    ]
  where
    by_place : (y : Option ℕ) → (let l : List Job = elim (option_map suc y) [ Some i ↦ remove (j ∷ js) i | None ↦ j ∷ js ] in l) ≡ j ∷ (let l : List Job = elim y [ Some i ↦ remove js i | None ↦ js ] in l)
    by_place None = refl
    by_place (Some i) = refl

-- without the job of one ticket, that of another is found as before
find-without : (ticket other : ℕ) (js : List Job) → (other == ticket) ≡ false → find (is_for ticket) (without other js) ≡ find (is_for ticket) js
find-without ticket other [] differ = refl
find-without ticket other (j ∷ js) differ = ap (find (is_for ticket)) (without-cons other j js) ∙ by_test (j.ticket == other) refl (find-without ticket other js differ)
  where
    by_test : (b : Bool) → (j.ticket == other) ≡ b → find (is_for ticket) (without other js) ≡ find (is_for ticket) js → find (is_for ticket) (cond b js (j ∷ without other js)) ≡ find (is_for ticket) (j ∷ js)
    by_test true same rest =
        let no : (j.ticket == ticket) ≡ false = ap (λ n. n == ticket) (eqb-true j.ticket other same) ∙ differ in
        sym (ap (λ b. cond b (Some j) (find (is_for ticket) js)) no)
    by_test false apart rest = ap (λ y. cond (j.ticket == ticket) (Some j) y) rest

-- it starts or leaves
abbrev takes : ℕ → Effect → Bool
takes ticket (Enable t unit) = t == ticket
takes ticket (Leave t unit) = t == ticket
takes ticket _ = false

-- until a command starts or leaves, its job is noted just as it is among those of all commands that enter
find-known : (ticket : ℕ) (k : Known) (es : List Effect) → list_any (takes ticket) es ≡ false → find (is_for ticket) (known_after k es).dormant ≡ find (is_for ticket) (k.dormant ++ commands_entering k.last es)
find-known ticket k [] stays = ap (find (is_for ticket)) (sym (append-nil k.dormant))
find-known ticket k (Deliver r ∷ es) stays = find-known ticket (record k { last = Some r }) es stays
find-known ticket k (Immediate r ∷ es) stays = find-known ticket (record k { last = Some r }) es stays
find-known ticket k (Enter t unit attr ∷ es) stays =
    find-known ticket (after_effect k (Enter t unit attr)) es stays ∙ ap (find (is_for ticket)) (append_assoc k.dormant (entered k.last t unit attr) (commands_entering k.last es))
find-known ticket k (Enable t unit ∷ es) stays =
    let parts = or_parts (t == ticket) (list_any (takes ticket) es) stays in
    let js : List Job = commands_entering k.last es in
    find-known ticket (after_effect k (Enable t unit)) es parts.1
    ∙ find-append (is_for ticket) (without t k.dormant) js
    ∙ ap (λ y. option_or y (find (is_for ticket) js)) (find-without ticket t k.dormant parts.0)
    ∙ sym (find-append (is_for ticket) k.dormant js)
find-known ticket k (Leave t unit ∷ es) stays =
    let parts = or_parts (t == ticket) (list_any (takes ticket) es) stays in
    let js : List Job = commands_entering k.last es in
    find-known ticket (after_effect k (Leave t unit)) es parts.1
    ∙ find-append (is_for ticket) (without t k.dormant) js
    ∙ ap (λ y. option_or y (find (is_for ticket) js)) (find-without ticket t k.dormant parts.0)
    ∙ sym (find-append (is_for ticket) k.dormant js)
find-known ticket k (e ∷ es) stays = find-known ticket k es stays

-- what is found stays the first, whatever follows
found-more : (p : Job → Bool) (last : Option Request) (xs ys : List Effect) (j : Job) → find p (commands_entering last xs) ≡ Some j → find p (commands_entering last (xs ++ ys)) ≡ Some j
found-more p last [] ys j h = absurd cc
found-more p last (Deliver r ∷ xs) ys j h = found-more p (Some r) xs ys j h
found-more p last (Immediate r ∷ xs) ys j h = found-more p (Some r) xs ys j h
found-more p None (Enter ticket unit attr ∷ xs) ys j h = found-more p None xs ys j h
found-more p (Some r) (Enter ticket unit attr ∷ xs) ys j h = by_test (p (job_for r ticket unit attr)) h (found-more p (Some r) xs ys j)
  where
    by_test : (b : Bool) → cond b (Some (job_for r ticket unit attr)) (find p (commands_entering (Some r) xs)) ≡ Some j
        → (find p (commands_entering (Some r) xs) ≡ Some j → find p (commands_entering (Some r) (xs ++ ys)) ≡ Some j)
        → cond b (Some (job_for r ticket unit attr)) (find p (commands_entering (Some r) (xs ++ ys))) ≡ Some j
    by_test true h rest = h
    by_test false h rest = rest h
found-more p last (e ∷ xs) ys j h = found-more p last xs ys j h

-- ---- the life of a command that starts

-- what passes only if it is kept passes among what is kept
any-kept : (p q : Effect → Bool) → ((e : Effect) → p e ≡ true → q e ≡ true) → (es : List Effect) → list_any p (filter q es) ≡ list_any p es
any-kept p q kept [] = refl
any-kept p q kept (e ∷ es) = by_tests (q e) (p e) refl refl (any-kept p q kept es)
  where
    by_tests : (b c : Bool) → q e ≡ b → p e ≡ c → list_any p (filter q es) ≡ list_any p es → list_any p (cond b (e ∷ filter q es) (filter q es)) ≡ (p e || list_any p es)
    by_tests true c i j rest = ap (λ d. p e || d) rest
    by_tests false true i j rest = absurd (false≢true (sym i ∙ kept e j))
    by_tests false false i j rest = rest ∙ sym (ap (λ d. d || list_any p es) j)

takes-named : (ticket : ℕ) (e : Effect) → takes ticket e ≡ true → names_ticket ticket e ≡ true
takes-named ticket (Enable t unit) h = h
takes-named ticket (Leave t unit) h = h
takes-named ticket _ h = absurd (false≢true h)

enable-named : (ticket : ℕ) (e : Effect) → is_enable ticket e ≡ true → names_ticket ticket e ≡ true
enable-named ticket (Enable t unit) h = h
enable-named ticket _ h = absurd (false≢true h)

-- before its Enable, a command of the unit has entered, and no more; after it the life ends
record EntersBefore (unit : ℕ) (xs ys : List Effect) : Type 0 where
  ticket : ℕ
  attr : Attr
  is : xs ≡ Enter ticket unit attr ∷ []
  over : ends_in unit ys ≡ true

never_starts : (u ticket unit : ℕ) (xs ys : List Effect) → ends_in u (xs ++ Enable ticket unit ∷ ys) ≡ true → ⊥
never_starts u ticket unit [] ys h = false≢true h
never_starts u ticket unit (Leave t v ∷ []) ys h = false≢true h
never_starts u ticket unit (Leave t v ∷ x ∷ xs) ys h = false≢true h
never_starts u ticket unit (e ∷ xs) ys h = false≢true h

enters_before : (ticket unit : ℕ) (xs ys : List Effect) → is_life (xs ++ Enable ticket unit ∷ ys) ≡ true → EntersBefore unit xs ys
enters_before ticket unit [] ys h = absurd (false≢true h)
enters_before ticket unit (Enter t u attr ∷ xs) ys h = goes_on xs h
  where
    goes_on : (zs : List Effect) → goes_on_in u (zs ++ Enable ticket unit ∷ ys) ≡ true → EntersBefore unit (Enter t u attr ∷ zs) ys
    goes_on [] h =
        let parts = and_parts (unit == u) (ends_in u ys) h in
        let same : unit ≡ u = eqb-true unit u parts.0 in
        record { ticket = t; attr = attr; is = ap (λ v. Enter t v attr ∷ []) (sym same); over = ap (λ v. ends_in v ys) same ∙ parts.1 }
    goes_on (Enable s v ∷ zs) h = absurd (never_starts u ticket unit zs ys (and_parts (v == u) (ends_in u (zs ++ Enable ticket unit ∷ ys)) h).1)
    goes_on (e ∷ zs) h = absurd (never_starts u ticket unit (e ∷ zs) ys h)
enters_before ticket unit (e ∷ xs) ys h = absurd (false≢true h)

ended : (ticket unit : ℕ) (es : List Effect) → ends_in unit es ≡ true → list_any (is_enable ticket) es ≡ false
ended ticket unit [] h = refl
ended ticket unit (Leave t u ∷ []) h = refl
ended ticket unit (e ∷ es) h = absurd (false≢true h)

-- one that has entered, and no more, hasn't started or left
untaken : (ticket unit t : ℕ) (attr : Attr) (es : List Effect) → life_of ticket es ≡ Enter t unit attr ∷ [] → list_any (takes ticket) es ≡ false
untaken ticket unit t attr es life = sym (any-kept (takes ticket) (names_ticket ticket) (takes-named ticket) es) ∙ ap (list_any (takes ticket)) life

-- one whose life ends starts no more
unstarted : (ticket unit : ℕ) (es : List Effect) → ends_in unit (life_of ticket es) ≡ true → list_any (is_enable ticket) es ≡ false
unstarted ticket unit es over = sym (any-kept (is_enable ticket) (names_ticket ticket) (enable-named ticket) es) ∙ ended ticket unit (life_of ticket es) over

-- the job that is found for a ticket
record Found (ticket unit : ℕ) (js : List Job) : Type 0 where
  job : Job
  is : find (is_for ticket) js ≡ Some job
  its_ticket : job.ticket ≡ ticket
  its_unit : job.unit ≡ unit

-- the job of a command that has entered
job-found : (ticket unit t : ℕ) (attr : Attr) (last : Option Request) (es : List Effect) → life_of ticket es ≡ Enter t unit attr ∷ [] → is_asked last es ≡ true → Found ticket unit (commands_entering last es)
job-found ticket unit t attr last [] life asked = absurd cc
job-found ticket unit t attr last (Deliver r ∷ es) life asked = job-found ticket unit t attr (Some r) es life asked
job-found ticket unit t attr last (Immediate r ∷ es) life asked = job-found ticket unit t attr (Some r) es life asked
job-found ticket unit t attr None (Enter s v a ∷ es) life asked = absurd (false≢true asked)
job-found ticket unit t attr (Some r) (Enter s v a ∷ es) life asked = by_test (s == ticket) refl life (λ rest. job-found ticket unit t attr (Some r) es rest asked)
  where
    by_test : (b : Bool) → (s == ticket) ≡ b → cond b (Enter s v a ∷ life_of ticket es) (life_of ticket es) ≡ Enter t unit attr ∷ []
        → (life_of ticket es ≡ Enter t unit attr ∷ [] → Found ticket unit (commands_entering (Some r) es))
        → Found ticket unit (job_for r s v a ∷ commands_entering (Some r) es)
    by_test true same life later = record {
      job = job_for r s v a;
      is = ap (λ b. cond b (Some (job_for r s v a)) (find (is_for ticket) (commands_entering (Some r) es))) same;
      its_ticket = eqb-true s ticket same;
      its_unit = cc;
    }
    by_test false apart life later =
        let f = later life in
        record { job = f.job; is = ap (λ b. cond b (Some (job_for r s v a)) (find (is_for ticket) (commands_entering (Some r) es))) apart ∙ f.is; its_ticket = f.its_ticket; its_unit = f.its_unit }
job-found ticket unit t attr last (Enable s v ∷ es) life asked = by_test (s == ticket) life (λ rest. job-found ticket unit t attr last es rest asked)
  where
    by_test : (b : Bool) → cond b (Enable s v ∷ life_of ticket es) (life_of ticket es) ≡ Enter t unit attr ∷ []
        → (life_of ticket es ≡ Enter t unit attr ∷ [] → Found ticket unit (commands_entering last es)) → Found ticket unit (commands_entering last es)
    by_test true life later = absurd cc
    by_test false life later = later life
job-found ticket unit t attr last (Leave s v ∷ es) life asked = by_test (s == ticket) life (λ rest. job-found ticket unit t attr last es rest asked)
  where
    by_test : (b : Bool) → cond b (Leave s v ∷ life_of ticket es) (life_of ticket es) ≡ Enter t unit attr ∷ []
        → (life_of ticket es ≡ Enter t unit attr ∷ [] → Found ticket unit (commands_entering last es)) → Found ticket unit (commands_entering last es)
    by_test true life later = absurd cc
    by_test false life later = later life
job-found ticket unit t attr last (e ∷ es) life asked = job-found ticket unit t attr last es life asked

-- ---- effects in which each ticket has a life

-- an Enable, the effects before it, and those after it
record Starts (es before after : List Effect) (ticket unit : ℕ) : Type 0 where
  job : Job
  -- the loop has noted it
  noted : find (is_for ticket) (known_after nothing before).dormant ≡ Some job
  -- it is that of the command that enters
  given : find (is_for ticket) (commands_entering None es) ≡ Some job
  its_ticket : job.ticket ≡ ticket
  its_unit : job.unit ≡ unit
  once : list_any (is_enable ticket) after ≡ false

-- no command is enabled twice
abbrev start_apart : List Effect → Bool
start_apart [] = true
start_apart (Enable ticket unit ∷ es) = not (list_any (is_enable ticket) es) && start_apart es
start_apart (e ∷ es) = start_apart es

cons-listed : (x : Option Job) (js : List Job) → listed x ++ js ≡ cons_option x js
cons-listed None js = refl
cons-listed (Some j) js = refl

-- the life of a command that an Enable starts, about it
life-at : (ticket unit : ℕ) (before after : List Effect) → life_of ticket (before ++ Enable ticket unit ∷ after) ≡ life_of ticket before ++ Enable ticket unit ∷ life_of ticket after
life-at ticket unit before after =
    filter-append (names_ticket ticket) before (Enable ticket unit ∷ after)
    ∙ ap (λ b. life_of ticket before ++ cond b (Enable ticket unit ∷ life_of ticket after) (life_of ticket after)) (eq-eqb ticket ticket refl)

-- what is found before the Enable is found all along
starts_found : (es before after : List Effect) (ticket unit : ℕ) → before ++ Enable ticket unit ∷ after ≡ es → list_any (takes ticket) before ≡ false → list_any (is_enable ticket) after ≡ false
    → Found ticket unit (commands_entering None before) → Starts es before after ticket unit
starts_found es before after ticket unit whole stays once f = record {
  job = f.job;
  noted = find-known ticket nothing before stays ∙ f.is;
  given = ap (λ xs. find (is_for ticket) (commands_entering None xs)) (sym whole) ∙ found-more (is_for ticket) None before (Enable ticket unit ∷ after) f.job f.is;
  its_ticket = f.its_ticket;
  its_unit = f.its_unit;
  once = once;
}

module _ (es : List Effect) (lives : (ticket : ℕ) → is_life (life_of ticket es) ≡ true) (asked : is_asked None es ≡ true) where
  starts : (before after : List Effect) (ticket unit : ℕ) → before ++ Enable ticket unit ∷ after ≡ es → Starts es before after ticket unit
  starts before after ticket unit whole =
      let life = ap is_life (sym (life-at ticket unit before after) ∙ ap (life_of ticket) whole) ∙ lives ticket in
      let p : EntersBefore unit (life_of ticket before) (life_of ticket after) = enters_before ticket unit (life_of ticket before) (life_of ticket after) life in
      let led = asked-front None before (Enable ticket unit ∷ after) (ap (is_asked None) whole ∙ asked) in
      starts_found es before after ticket unit whole (untaken ticket unit p.ticket p.attr before p.is) (unstarted ticket unit after p.over) (job-found ticket unit p.ticket p.attr None before p.is led)

  -- with one effect more before
  moved : (before : List Effect) (e : Effect) (after : List Effect) → before ++ e ∷ after ≡ es → (before ++ e ∷ []) ++ after ≡ es
  moved before e after whole = append_assoc before (e ∷ []) after ∙ whole

  -- the job of an effect is the same, noted or given
  same_job : (u : ℕ) (before : List Effect) (e : Effect) (after : List Effect) → before ++ e ∷ after ≡ es
      → jobs_of u (listed (job_at (known_after nothing before) e)) ≡ listed (job_started u (commands_entering None es) e)
  same_job u before (Enable ticket unit) after whole =
      let s : Starts es before after ticket unit = starts before after ticket unit whole in
      ap (λ x. jobs_of u (listed x)) s.noted
      ∙ ap (λ v. cond (nat_eq v u) (s.job ∷ []) []) s.its_unit
      ∙ elim (nat_eq unit u) as (λ b. cond b (s.job ∷ []) [] ≡ listed (cond b (Some s.job) None)) [ true ↦ refl | false ↦ refl ]
      ∙ ap (λ x. listed (cond (nat_eq unit u) x None)) (sym s.given)
  same_job u before _ after whole = refl

  -- so are all jobs
  pub same_jobs : (u : ℕ) (before after : List Effect) → before ++ after ≡ es → jobs_of u (jobs_from (known_after nothing before) after) ≡ filter_map (job_started u (commands_entering None es)) after
  same_jobs u before [] whole = refl
  same_jobs u before (e ∷ after) whole =
      let k : Known = known_after nothing before in
      let rest : jobs_of u (jobs_from (after_effect k e) after) ≡ filter_map (job_started u (commands_entering None es)) after =
      ap (λ (l : Known). jobs_of u (jobs_from l after)) (sym (known_after-append nothing before (e ∷ []))) ∙ same_jobs u (before ++ e ∷ []) after (moved before e after whole) in
      jobs_of_append u (listed (job_at k e)) (jobs_from (after_effect k e) after)
      ∙ ap (λ js. jobs_of u (listed (job_at k e)) ++ js) rest
      ∙ ap (λ js. js ++ filter_map (job_started u (commands_entering None es)) after) (same_job u before e after whole)
      ∙ cons-listed (job_started u (commands_entering None es) e) (filter_map (job_started u (commands_entering None es)) after)

  -- the ticket of an effect's job
  its_ticket : (u : ℕ) (before : List Effect) (e : Effect) (after : List Effect) → before ++ e ∷ after ≡ es
      → option_map (λ (j : Job). j.ticket) (job_started u (commands_entering None es) e) ≡ ticket_enabled u e
  its_ticket u before (Enable ticket unit) after whole =
      let s : Starts es before after ticket unit = starts before after ticket unit whole in
      ap (λ x. option_map (λ (j : Job). j.ticket) (cond (nat_eq unit u) x None)) s.given
      ∙ elim (nat_eq unit u) as (λ b. option_map (λ (j : Job). j.ticket) (cond b (Some s.job) None) ≡ cond b (Some s.job.ticket) None) [ true ↦ refl | false ↦ refl ]
      ∙ ap (λ n. cond (nat_eq unit u) (Some n) None) s.its_ticket
  its_ticket u before _ after whole = refl

  pub tickets_of_jobs : (u : ℕ) (before after : List Effect) → before ++ after ≡ es → map (λ (j : Job). j.ticket) (filter_map (job_started u (commands_entering None es)) after) ≡ tickets_enabled u after
  tickets_of_jobs u before [] whole = refl
  tickets_of_jobs u before (e ∷ after) whole =
      by_job (job_started u (commands_entering None es) e) (filter_map (job_started u (commands_entering None es)) after)
      ∙ ap (λ x. cons_option x (map (λ (j : Job). j.ticket) (filter_map (job_started u (commands_entering None es)) after))) (its_ticket u before e after whole)
      ∙ ap (cons_option (ticket_enabled u e)) (tickets_of_jobs u (before ++ e ∷ []) after (moved before e after whole))
    where
      by_job : (x : Option Job) (js : List Job) → map (λ (j : Job). j.ticket) (cons_option x js) ≡ cons_option (option_map (λ (j : Job). j.ticket) x) (map (λ (j : Job). j.ticket) js)
      by_job None js = refl
      by_job (Some j) js = refl

  pub all_start_apart : (before after : List Effect) → before ++ after ≡ es → start_apart after ≡ true
  all_start_apart before [] whole = refl
  all_start_apart before (Enable ticket unit ∷ after) whole =
      and_from (not (list_any (is_enable ticket) after)) (start_apart after)
      (not_from_false (list_any (is_enable ticket) after) (starts before after ticket unit whole).once)
      (all_start_apart (before ++ Enable ticket unit ∷ []) after (moved before (Enable ticket unit) after whole))
  all_start_apart before (e ∷ after) whole = all_start_apart (before ++ e ∷ []) after (moved before e after whole)

-- ---- tickets that are enabled apart

-- a ticket that no Enable has isn't among the unit's
ticket_absent : (ticket v : ℕ) (es : List Effect) (k d : ℕ) → list_any (is_enable ticket) es ≡ false → k < length (tickets_enabled v es) → get_or (tickets_enabled v es) k d ≡ ticket → ⊥
ticket_absent ticket v [] k d none below same = omega arith
ticket_absent ticket v (Enable t unit ∷ es) k d none below same =
    let parts = or_parts (t == ticket) (list_any (is_enable ticket) es) none in
    by_test (nat_eq unit v) k below same parts.0 (λ j l s. ticket_absent ticket v es j d parts.1 l s)
  where
    by_test : (b : Bool) (k : ℕ) → k < length (cons_option (cond b (Some t) None) (tickets_enabled v es)) → get_or (cons_option (cond b (Some t) None) (tickets_enabled v es)) k d ≡ ticket
        → (t == ticket) ≡ false → ((j : ℕ) → j < length (tickets_enabled v es) → get_or (tickets_enabled v es) j d ≡ ticket → ⊥) → ⊥
    by_test true zero below same other rest = false≢true (sym other ∙ eq-eqb t ticket same)
    by_test true (suc k) below same other rest = rest k (omega arith) same
    by_test false k below same other rest = rest k below same
ticket_absent ticket v (e ∷ es) k d none below same = ticket_absent ticket v es k d none below same

-- two places with one ticket are one place of one unit
pub tickets_apart : (u v : ℕ) (es : List Effect) → start_apart es ≡ true → (i k d : ℕ) → i < length (tickets_enabled u es) → k < length (tickets_enabled v es)
    → get_or (tickets_enabled u es) i d ≡ get_or (tickets_enabled v es) k d → (u ≡ v) × (i ≡ k)
tickets_apart u v [] apart i k d low high same = absurd (omega arith)
tickets_apart u v (Enable t unit ∷ es) apart i k d low high same =
    let parts = and_parts (not (list_any (is_enable t) es)) (start_apart es) apart in
    let none : list_any (is_enable t) es ≡ false = not-true (list_any (is_enable t) es) parts.0 in
    by_tests (nat_eq unit u) (nat_eq unit v) refl refl i k low high same
    (λ m. ticket_absent t u es m d none) (λ m. ticket_absent t v es m d none) (λ m n. tickets_apart u v es parts.1 m n d)
  where
    by_tests : (a b : Bool) → nat_eq unit u ≡ a → nat_eq unit v ≡ b → (i k : ℕ)
        → i < length (cons_option (cond a (Some t) None) (tickets_enabled u es)) → k < length (cons_option (cond b (Some t) None) (tickets_enabled v es))
        → get_or (cons_option (cond a (Some t) None) (tickets_enabled u es)) i d ≡ get_or (cons_option (cond b (Some t) None) (tickets_enabled v es)) k d
        → ((m : ℕ) → m < length (tickets_enabled u es) → get_or (tickets_enabled u es) m d ≡ t → ⊥)
        → ((m : ℕ) → m < length (tickets_enabled v es) → get_or (tickets_enabled v es) m d ≡ t → ⊥)
        → ((m n : ℕ) → m < length (tickets_enabled u es) → n < length (tickets_enabled v es) → get_or (tickets_enabled u es) m d ≡ get_or (tickets_enabled v es) n d → (u ≡ v) × (m ≡ n))
        → (u ≡ v) × (i ≡ k)
    by_tests true true p q zero zero low high same no_u no_v rest = (sym (eqb-true unit u p) ∙ eqb-true unit v q, refl)
    by_tests true true p q zero (suc k) low high same no_u no_v rest = absurd (no_v k (omega arith) (sym same))
    by_tests true true p q (suc i) zero low high same no_u no_v rest = absurd (no_u i (omega arith) same)
    by_tests true true p q (suc i) (suc k) low high same no_u no_v rest = let r = rest i k (omega arith) (omega arith) same in (r.0, ap suc r.1)
    by_tests true false p q zero k low high same no_u no_v rest = absurd (no_v k high (sym same))
    by_tests true false p q (suc i) k low high same no_u no_v rest = absurd (let r = rest i k (omega arith) high same in false≢true (sym q ∙ ap (nat_eq unit) (sym r.0) ∙ p))
    by_tests false true p q i zero low high same no_u no_v rest = absurd (no_u i low same)
    by_tests false true p q i (suc k) low high same no_u no_v rest = absurd (let r = rest i k low (omega arith) same in false≢true (sym p ∙ ap (nat_eq unit) r.0 ∙ q))
    by_tests false false p q i k low high same no_u no_v rest = rest i k low high same
tickets_apart u v (e ∷ es) apart i k d low high same = tickets_apart u v es apart i k d low high same

-- the jobs of a unit are of that unit
pub jobs_of-unit : (u : ℕ) (js : List Job) → list_all (λ (j : Job). j.unit == u) (jobs_of u js) ≡ true
jobs_of-unit u [] = refl
jobs_of-unit u (j ∷ js) = by_test (nat_eq j.unit u) refl (jobs_of-unit u js)
  where
    by_test : (b : Bool) → nat_eq j.unit u ≡ b → list_all (λ (k : Job). k.unit == u) (jobs_of u js) ≡ true → list_all (λ (k : Job). k.unit == u) (cond b (j ∷ jobs_of u js) (jobs_of u js)) ≡ true
    by_test true is rest = and_from (j.unit == u) (list_all (λ (k : Job). k.unit == u) (jobs_of u js)) is rest
    by_test false is rest = rest
