mod FollowerLemmas
mod LeaderLemmas
