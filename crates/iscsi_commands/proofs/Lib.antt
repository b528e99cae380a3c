pub mod LogLemmas
pub mod RankLemmas
pub mod TagIndexLemmas
