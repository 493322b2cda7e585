-- A value with the moment of its last update. This file and no other reads its private fields.
use Rattle.std.specs.Prelude.{Option}
use Rattle.raft_base.specs.declared.utime.UTime.{UTime}

-- the value
abbrev pub data_of : {T I : Type 0} → UTime T I → T
data_of s = s.«data»

-- the moment of its last update, if there was one
abbrev pub moment_of : {T I : Type 0} → UTime T I → Option I
moment_of s = s.utime

-- the value with this moment, or with none
abbrev pub utime_of : {T I : Type 0} → T → Option I → UTime T I
utime_of value moment = record { «data» = value; utime = moment }
