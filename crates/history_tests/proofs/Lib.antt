mod Asked
mod Setups
