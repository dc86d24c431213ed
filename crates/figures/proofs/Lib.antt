pub mod FiguresHold
