-- The chooser: what each choice of factors does.
pub mod Choice
