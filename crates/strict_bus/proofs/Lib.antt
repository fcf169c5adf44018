mod Straight
