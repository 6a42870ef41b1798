pub mod PairTurns
