-- A side is opened just as its options are good.
use Rattle.std.proofs.Common.{◌≡◌, ◌∙◌, ℕ, ◌+◌, ◌*◌, ◌^◌, ◌==◌, ◌&&◌, ◌||◌, not, Bool, true, false, List, [], ◌∷◌, length, map, suc, Ok, Err, refl, sym, ap, subst}
use Rattle.std.proofs.lemmas.Bool.{false≢true}
use Rattle.iscsi_rules.specs.rules.Settings.{Setting, are_distinct, is_known, is_valid as is_valid_setting, is_within}
use Rattle.iscsi_outbox.specs.promises.Options.{are_distinct as are_distinct_cids, is_known as is_known_cid, limits_of as limits_by}
use Rattle.iscsi_outbox_steps.specs.State.{Limits, limits_of}
use Rattle.iscsi_host.specs.Serving.{Hosted, Serves}
use Rattle.iscsi_ffi_steps.specs.State.{opened_with}
use Rattle.iscsi_ffi_steps.specs.Walk.{Doing}
use Rattle.iscsi_ffi_steps.specs.Steps.{begun, going}
use Rattle.iscsi_ffi_desk.specs.declared.desk.opening.DeskOptions.{DeskOptions}
use Rattle.iscsi_ffi_desk.specs.Options.{is_valid as is_valid_desk, opened}
use Rattle.iscsi_ffi.specs.declared.answer.Answer.{Answer}
use Rattle.iscsi_ffi.specs.declared.answer.Answer.TheVariants.{BadOptions, NoMemory}
use Rattle.iscsi_ffi.specs.declared.options.PlainOptions.{PlainOptions}
use Rattle.iscsi_ffi.specs.Opened.{RefusesAs}
use Rattle.iscsi_ffi.specs.Options.{IsDeskOf, connection_of, fits, interface_of, is_valid, setting_by}
use Rattle.iscsi_ffi.specs.Standing.{Stands}

-- ---- the connections

pub length-conns : (cids : List ℕ) → length (map connection_of cids) ≡ length cids
length-conns [] = refl
length-conns (c ∷ cs) = ap suc (length-conns cs)

pub known-conns : (cid : ℕ) (cids : List ℕ) → is_known cid (map connection_of cids) ≡ is_known_cid cid cids
known-conns cid [] = refl
known-conns cid (c ∷ cs) = ap (λ b. (c == cid) || b) (known-conns cid cs)

pub distinct-conns : (cids : List ℕ) → are_distinct (map connection_of cids) ≡ are_distinct_cids cids
distinct-conns [] = refl
distinct-conns (c ∷ cs) = ap (λ b. not b && are_distinct (map connection_of cs)) (known-conns c cs) ∙ ap (λ b. not (is_known_cid c cs) && b) (distinct-conns cs)

pub cids-conns : (cids : List ℕ) → map (λ (c : ℕ × ℕ). c.0) (map connection_of cids) ≡ cids
cids-conns [] = refl
cids-conns (c ∷ cs) = ap (λ (rest : List ℕ). c ∷ rest) (cids-conns cs)

-- ---- what is refused

pick : (f w u d l e n di ow un : Bool) → (f && ((w && u && d && l) && e && n && di && (ow && un))) ≡ true → ((w && u && ow && n && di) && un) ≡ true
pick false w u d l e n di ow un is = absurd (false≢true is)
pick true false u d l e n di ow un is = absurd (false≢true is)
pick true true false d l e n di ow un is = absurd (false≢true is)
pick true true true false l e n di ow un is = absurd (false≢true is)
pick true true true true false e n di ow un is = absurd (false≢true is)
pick true true true true true false n di ow un is = absurd (false≢true is)
pick true true true true true true false di ow un is = absurd (false≢true is)
pick true true true true true true true false ow un is = absurd (false≢true is)
pick true true true true true true true true false un is = absurd (false≢true is)
pick true true true true true true true true true false is = absurd (false≢true is)
pick true true true true true true true true true true is = refl

-- the options of what is kept beside a session, in the words of a side's
pub desk-by : (o : PlainOptions) (cids : List ℕ) (d : DeskOptions) → IsDeskOf o cids d → is_valid_desk d ≡
    ((is_within o.window 1024 && is_within o.units 256 && is_within o.own 1024 && is_within (length (map connection_of cids)) 64 && are_distinct (map connection_of cids)) && is_within o.unwritten 1024)
desk-by o cids d of =
    ap (λ (x : ℕ). (is_within x 1024 && is_within d.outbox.units 256 && is_within d.outbox.own 1024 && is_within (length d.outbox.conns.items) 64 && are_distinct_cids d.outbox.conns.items) && is_within d.unwritten 1024) of.window
    ∙ ap (λ (x : ℕ). (is_within o.window 1024 && is_within x 256 && is_within d.outbox.own 1024 && is_within (length d.outbox.conns.items) 64 && are_distinct_cids d.outbox.conns.items) && is_within d.unwritten 1024) of.units
    ∙ ap (λ (x : ℕ). (is_within o.window 1024 && is_within o.units 256 && is_within x 1024 && is_within (length d.outbox.conns.items) 64 && are_distinct_cids d.outbox.conns.items) && is_within d.unwritten 1024) of.own
    ∙ ap (λ (x : List ℕ). (is_within o.window 1024 && is_within o.units 256 && is_within o.own 1024 && is_within (length x) 64 && are_distinct_cids x) && is_within d.unwritten 1024) of.conns
    ∙ ap (λ (x : ℕ). (is_within o.window 1024 && is_within o.units 256 && is_within o.own 1024 && is_within (length cids) 64 && are_distinct_cids cids) && is_within x 1024) of.unwritten
    ∙ ap (λ (x : ℕ). (is_within o.window 1024 && is_within o.units 256 && is_within o.own 1024 && is_within x 64 && are_distinct_cids cids) && is_within o.unwritten 1024) (sym (length-conns cids))
    ∙ ap (λ (x : Bool). (is_within o.window 1024 && is_within o.units 256 && is_within o.own 1024 && is_within (length (map connection_of cids)) 64 && x) && is_within o.unwritten 1024) (sym (distinct-conns cids))

-- they are good, where a side's are
pub desk-valid : (o : PlainOptions) (cids : List ℕ) (d : DeskOptions) → IsDeskOf o cids d → is_valid o cids ≡ true → is_valid_desk d ≡ true
desk-valid o cids d of is =
    desk-by o cids d of
    ∙ pick (fits o (length cids)) (is_within o.window 1024) (is_within o.units 256) (is_within o.depth 1024) (is_within o.level 2) (is_within o.events (2 ^ 48)) (is_within (length (map connection_of cids)) 64) (are_distinct (map connection_of cids)) (is_within o.own 1024) (is_within o.unwritten 1024) is

first : (f s r : Bool) → (f && (s && r)) ≡ true → s ≡ true
first false s r is = absurd (false≢true is)
first true false r is = absurd (false≢true is)
first true true r is = refl

pub session-valid : (o : PlainOptions) (cids : List ℕ) (s : Setting) → s ≡ setting_by o cids → is_valid o cids ≡ true → is_valid_setting s ≡ true
session-valid o cids s same is =
    ap is_valid_setting same ∙ first (fits o (length cids)) (is_valid_setting (setting_by o cids)) (is_within o.own 1024 && is_within o.unwritten 1024) is

-- a session's connections are as many as the CIDs, and as distinct
pub valid_by : (o : PlainOptions) (cids : List ℕ) → is_valid o cids ≡
    (fits o (length cids) && (((is_within o.window 1024 && is_within o.units 256 && is_within o.depth 1024 && is_within o.level 2) && is_within o.events (2 ^ 48) && is_within (length cids) 64 && are_distinct_cids cids) && (is_within o.own 1024 && is_within o.unwritten 1024)))
valid_by o cids =
    ap (λ (n : ℕ). fits o (length cids) && (((is_within o.window 1024 && is_within o.units 256 && is_within o.depth 1024 && is_within o.level 2) && is_within o.events (2 ^ 48) && is_within n 64 && are_distinct (map connection_of cids)) && (is_within o.own 1024 && is_within o.unwritten 1024))) (length-conns cids)
    ∙ ap (λ (b : Bool). fits o (length cids) && (((is_within o.window 1024 && is_within o.units 256 && is_within o.depth 1024 && is_within o.level 2) && is_within o.events (2 ^ 48) && is_within (length cids) 64 && b) && (is_within o.own 1024 && is_within o.unwritten 1024))) (distinct-conns cids)

-- ---- what is refused, and what isn't

pub refused : (A : Type 0) (valid : Bool) (answer : Answer) → valid ≡ false → answer ≡ BadOptions → RefusesAs {A = A} valid (Err answer)
refused A true answer is same = absurd (false≢true (sym is))
refused A false answer is same = same

pub wanting : (A : Type 0) (valid : Bool) (answer : Answer) → valid ≡ true → answer ≡ NoMemory → RefusesAs {A = A} valid (Err answer)
wanting A true answer is same = same
wanting A false answer is same = absurd (false≢true is)

pub opened-by : {A : Type 0} (valid : Bool) (x : A) → valid ≡ true → RefusesAs valid (Ok x)
opened-by true x is = tt
opened-by false x is = absurd (false≢true is)

-- ---- what is opened

pub limits-same : (o : PlainOptions) (cids : List ℕ) (d : DeskOptions) → IsDeskOf o cids d → limits_by d.outbox ≡ limits_of (interface_of o cids).outbox
limits-same o cids d of = cc (of.window, of.units, of.own, of.acknowledged, of.shared, of.conns, cids-conns cids, length-conns cids)

pub desk-opened : (o : PlainOptions) (cids : List ℕ) (d : DeskOptions) → IsDeskOf o cids d → opened d ≡ (going (begun (interface_of o cids))).doing
desk-opened o cids d of =
    ap (λ (n : ℕ). record { state = opened_with n (limits_by d.outbox) d.outbox.first; actions = []; forgets = [] }) of.unwritten
    ∙ ap (λ (n : ℕ). record { state = opened_with o.unwritten (limits_by d.outbox) n; actions = []; forgets = [] }) of.first
    ∙ ap (λ (l : Limits). record { state = opened_with o.unwritten l o.first_cmd_sn; actions = []; forgets = [] }) (limits-same o cids d of)

pub stands-opened : (o : PlainOptions) (cids : List ℕ) (d : DeskOptions) (s : Setting) (host : Hosted) (desk : Doing) (kept : ℕ)
    → s ≡ setting_by o cids → Serves s host [] → IsDeskOf o cids d → desk ≡ opened d → kept ≡ 64 + o.window + 8 * length cids
    → Stands (interface_of o cids) (record { host = host; desk = desk; taken = 0; events = o.events; kept_back = kept; unwritten = o.unwritten; given = 0; forgotten = 0 }) (going (begun (interface_of o cids)))
stands-opened o cids d s host desk kept same serves of is back =
    let P : Setting → Type 0 = λ x. Serves x host [] in
    record {
      history = [];
      serves = subst P same serves;
      event = refl;
      trace = refl;
      taken = refl;
      doing = is ∙ desk-opened o cids d of;
      limits = refl;
      events = refl;
      kept = back ∙ ap (λ (n : ℕ). 64 + o.window + 8 * n) (sym (length-conns cids));
      unwritten = refl;
    }
