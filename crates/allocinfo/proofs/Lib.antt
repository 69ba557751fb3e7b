pub mod PrefixLemmas
pub mod RankLemmas
