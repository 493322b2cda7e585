-- The text of each reply, a line.
use Rattle.std.specs.Prelude.{ℕ, List, [], ◌∷◌, ◌++◌, Some, None, codes}
use Rattle.std.specs.Fmt.{decimal}
use Rattle.raft_progress.specs.declared.progress.steps.Reply.{Reply}
use Rattle.raft_progress.specs.declared.progress.steps.Reply.TheVariants.{Granted, Unknown, WouldFall, Refused, BelowDefault, BadLearners, OutOfMemory}

-- a text and a line feed
abbrev pub line : List ℕ → List ℕ
line text = text ++ 10 ∷ []

-- what is written for a reply
abbrev pub reply_text : Reply ℕ ℕ → List ℕ
reply_text (Granted part) = line (codes "granted " ++ decimal part)
reply_text (Unknown part) = line (codes "unknown " ++ decimal part)
reply_text WouldFall = line (codes "would-fall")
reply_text (Refused (Some id)) = line (codes "refused no-node " ++ decimal id)
reply_text (Refused None) = line (codes "refused empty")
reply_text (BelowDefault id) = line (codes "below-default " ++ decimal id)
reply_text BadLearners = line (codes "bad-learners")
reply_text OutOfMemory = line (codes "no-memory")

-- what is written for the line with a number that cannot be run
abbrev pub bad_line_text : ℕ → List ℕ
bad_line_text number = line (codes "bad line " ++ decimal number)
