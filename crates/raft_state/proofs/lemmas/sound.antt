pub mod LoggedIds
pub mod LoggedMembers
pub mod SoundCalls
pub mod SoundInstall
pub mod SoundTestLemmas
