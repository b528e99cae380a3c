-- Each call, and each list of calls, is answered alike by the steps and the rules.
pub mod Opened
pub mod Calm
pub mod Clears
pub mod CallsGo
pub mod EventGoes
pub mod StepsGo
pub mod Alike
pub mod Called
