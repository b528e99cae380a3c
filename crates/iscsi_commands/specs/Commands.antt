-- The live commands, as callers see them.
use Rattle.std.specs.Prelude.{◌≢◌, ℕ, ◌<◌, ◌==◌, not, List, filter, find, Option}
use Rattle.std.specs.List.{AllPairs}
use Rattle.iscsi_commands.specs.declared.live.Live.{Live}

-- tickets go up
abbrev pub AreAscending : List Live → Type 0
AreAscending lives = AllPairs (λ a b. a.ticket < b.ticket) lives

-- no two have the same tag
abbrev pub AreTagsApart : List Live → Type 0
AreTagsApart lives = AllPairs (λ a b. a.itt ≢ b.itt) lives

-- the command with this ticket
abbrev pub find_ticket : ℕ → List Live → Option Live
find_ticket ticket lives = find (λ l. l.ticket == ticket) lives

-- the command with this tag
abbrev pub find_tag : ℕ → List Live → Option Live
find_tag itt lives = find (λ l. l.itt == itt) lives

-- .. without the one with this ticket
abbrev pub without_ticket : ℕ → List Live → List Live
without_ticket ticket lives = filter (λ l. not (l.ticket == ticket)) lives
