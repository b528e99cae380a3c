-- What holds of each box of the rules, whatever calls a session and its host make.
pub mod SoundSettled
pub mod SoundLists
pub mod SoundFirm
pub mod SoundMoves
pub mod SoundTurns
pub mod SoundTaking
pub mod SoundCalls
pub mod SoundParting
pub mod SoundForms
pub mod SoundItems
pub mod SoundRuns
