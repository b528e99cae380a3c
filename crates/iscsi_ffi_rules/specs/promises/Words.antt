-- Words: each that was given with a request, or with a PDU of the target's own that is of no command, comes back once, or is kept; and
-- it comes back last.
use Rattle.std.specs.Prelude.{◌≡◌, ◌≤◌, ℕ, ◌+◌, ◌==◌, Bool, false, List, [], ◌∷◌, ◌++◌, count_by, Some, None}
use Rattle.std.specs.List.{list_any, flat_map}
use Rattle.iscsi_outbox_rules.specs.declared.own_pdu.OwnPdu.TheVariants.{OfConnection}
use Rattle.iscsi_ffi_rules.specs.declared.action.Action.{Action}
use Rattle.iscsi_ffi_rules.specs.declared.action.Action.TheVariants.{Start, Stop, Forget}
use Rattle.iscsi_ffi_rules.specs.rules.Calls.{Interface, Call, Arrives, Puts}
use Rattle.iscsi_ffi_rules.specs.rules.Sides.{Asked, Noted, Side}
use Rattle.iscsi_ffi_rules.specs.rules.Run.{Answer, Taken, Put, Goes}
use Rattle.iscsi_ffi_rules.specs.promises.Deeds.{Deed, deeds_of, told_in, side_of}

-- the call has this word, and was answered so that it is kept
abbrev pub gives_word : ℕ → Call → Answer → Bool
gives_word word (Arrives conn header cookie) Taken = cookie == word
gives_word word (Puts (OfConnection conn header) cookie) (Put None) = cookie == word
gives_word word _ _ = false

abbrev pub is_forget : ℕ → Action → Bool
is_forget word (Forget cookie) = cookie == word
is_forget word _ = false

-- how often it is kept
abbrev pub count_kept : ℕ → Side → ℕ
count_kept word s =
    count_by (λ (a : Asked). a.cookie == word) s.asked + count_by (λ (n : Noted). n.cookie == word) s.noted + count_by (λ (n : Noted). n.cookie == word) s.handed_notes

abbrev pub ComesBackOnce : Interface → List Call → Type 0
ComesBackOnce i cs = (word : ℕ) → count_by (λ (d : Deed). gives_word word d.call d.answer) (deeds_of i cs) ≡ count_by (is_forget word) (told_in (deeds_of i cs)) + count_kept word (side_of i cs)

-- ---- in which order words are mentioned

pub data Mention : Type 0 where
  Names : ℕ → Mention  -- a command of it is to start or to stop, or a PDU of it is handed out
  Forgets : ℕ → Mention

abbrev pub mentions_of : Action → List Mention
mentions_of (Start ticket unit attr cookie) = Names cookie ∷ []
mentions_of (Stop ticket cookie why) = Names cookie ∷ []
mentions_of (Forget cookie) = Forgets cookie ∷ []
mentions_of _ = []

abbrev pub mentions_in : Answer → List Mention
mentions_in (Goes h (Some cookie)) = Names cookie ∷ []
mentions_in _ = []

-- what was answered and told, in order
abbrev pub mentions : List Deed → List Mention
mentions ds = flat_map (λ (d : Deed). mentions_in d.answer ++ flat_map mentions_of d.actions) ds

abbrev pub is_named : ℕ → Mention → Bool
is_named word (Names cookie) = cookie == word
is_named word (Forgets cookie) = false

-- behind its Forget a word that was given once is named no more. 0 stands where there is no word
abbrev pub ForgottenLast : Interface → List Call → Type 0
ForgottenLast i cs =
    (word : ℕ) → (word == 0) ≡ false → count_by (λ (d : Deed). gives_word word d.call d.answer) (deeds_of i cs) ≤ 1
    → (before after : List Mention) → before ++ Forgets word ∷ after ≡ mentions (deeds_of i cs) → list_any (is_named word) after ≡ false
