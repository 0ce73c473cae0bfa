mod Prelude
mod Below
mod ShiftLaws
